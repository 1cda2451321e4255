use Rattle.std.proofs.Common.{◌≡◌, map, take}
use Rattle.kin_rules.specs.Columns.{column_of}
use Rattle.kin_rules.specs.Results.{value_of}
use Rattle.kin_rules.proofs.widenings.values_by.Given as goal

abbrev pub invariant-loop-i : goal.invariant-loop-i
invariant-loop-i l = l.values.items ≡ map (value_of l.old (column_of l.column)) (take l.i l.users)
