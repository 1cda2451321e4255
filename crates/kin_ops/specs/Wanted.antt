-- Which operations of a transaction are made.
use Rattle.std.specs.Prelude.{ℕ, ◌<◌, ◌==◌, Bool, true, List, filter}
use Rattle.kin_ids.specs.declared.ops.Op.{Op}
use Rattle.kin_ids.specs.declared.ops.Numbered.{Numbered}
use Rattle.kin_ids.specs.Operations.{op_part}
use Rattle.kin_ops.specs.declared.wanted.Wanted.{Wanted}
use Rattle.kin_ops.specs.declared.wanted.Wanted.TheVariants as wanted

-- whether an operation is wanted
abbrev pub is_wanted : Wanted → Op → Bool
is_wanted wanted.All o = true
is_wanted (wanted.Of parts part) o = op_part parts o == part.0

-- those that are wanted
abbrev pub wanted_of : Wanted → List Numbered → List Numbered
wanted_of w xs = filter (λ x. is_wanted w x.op) xs

-- where one partition's are wanted, there is a partition
abbrev pub HasParts : Wanted → Type 0
HasParts wanted.All = Unit {0}
HasParts (wanted.Of parts part) = 0 < parts
