-- What a partition keeps of a user, and what an operation does to it.
use Rattle.std.specs.Prelude.{ℕ, ◌+◌, ◌==◌, ◌&&◌, Bool, List, [], length}
use Rattle.kin_ids.specs.declared.ids.User.{User}
use Rattle.kin_ids.specs.declared.stamps.Place.{Place}
use Rattle.kin_ids.specs.declared.ops.Half.{Half}
use Rattle.kin_ids.specs.declared.ops.Use.{Use}
use Rattle.kin_ids.specs.declared.ops.Op.{Op}
use Rattle.kin_ids.specs.declared.ops.Op.TheVariants as op
use Rattle.kin_ids.specs.Parts.{with_half, without_half, with_member, with_first}

-- A user's row: the follow halves out of it and into it, whom it mentions, who mentions it, its first uses of tags, and
-- how many items mention it.
pub record UserRow : Type 0 where
  pub out : List Half
  pub inn : List Half
  pub mentions : List User
  pub mentioners : List User
  pub uses : List Use
  pub said : ℕ

abbrev pub no_row : UserRow
no_row = record { out = []; inn = []; mentions = []; mentioners = []; uses = []; said = 0 }

abbrev pub is_none : {X : Type 0} → List X → Bool
is_none xs = length xs == 0

-- the user is in no follow edge ever added, in no mention edge and in no use
abbrev pub is_apart : UserRow → Bool
is_apart r = ((is_none r.out && is_none r.inn) && (is_none r.mentions && is_none r.mentioners)) && is_none r.uses

-- what an operation at a place does to its user's row
abbrev pub row_applied : Place → UserRow → Op → UserRow
row_applied at r (op.AddOut u w) = record r { out = with_half w at r.out }
row_applied at r (op.AddIn w u) = record r { inn = with_half u at r.inn }
row_applied at r (op.DropOut u w) = record r { out = without_half w r.out }
row_applied at r (op.DropIn w u) = record r { inn = without_half u r.inn }
row_applied at r (op.MentionOut u w) = record r { mentions = with_member w r.mentions }
row_applied at r (op.MentionIn w u) = record r { mentioners = with_member u r.mentioners }
row_applied at r (op.Said w) = record r { said = r.said + 1 }
row_applied at r (op.Use u t) = record r { uses = with_first t at r.uses }
row_applied at r (op.TagUse t u) = r
