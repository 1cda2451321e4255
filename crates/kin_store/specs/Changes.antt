-- What operations do to a store's rows and tags.
use Rattle.std.specs.Prelude.{ℕ, List, [], ◌∷◌}
use Rattle.kin_ids.specs.declared.ids.User.{User}
use Rattle.kin_ids.specs.declared.stamps.Place.{Place}
use Rattle.kin_ids.specs.declared.ops.Op.{Op}
use Rattle.kin_ids.specs.declared.ops.Op.TheVariants as op
use Rattle.kin_ids.specs.declared.ops.Numbered.{Numbered}
use Rattle.kin_ids.specs.Parts.{with_member, changed, changed_tag}
use Rattle.kin_store.specs.Rows.{UserRow, row_applied}
use Rattle.kin_store.specs.Blocks.{BlockState, row_in, users_in}
use Rattle.kin_store.specs.State.{PartState, row_of, users_of}

-- the row of each user, and the users of each tag
pub record Kept : Type 0 where
  pub row : User → UserRow
  pub users : List ℕ → List User

abbrev pub kept : PartState → Kept
kept s = record { row = λ u. row_of s u; users = λ t. users_of s t }

-- the same of one block
abbrev pub kept_in : BlockState → Kept
kept_in b = record { row = λ u. row_in b u; users = λ t. users_in b t }

abbrev pub with_row : Kept → User → UserRow → Kept
with_row k u r = record k { row = changed k.row u r }

abbrev pub with_users : Kept → List ℕ → List User → Kept
with_users k t us = record k { users = changed_tag k.users t us }

-- what an operation at a place does to a user's row
abbrev pub with_op : Kept → User → Place → Op → Kept
with_op k u at o = with_row k u (row_applied at (k.row u) o)

-- a tag has one more user, where it hasn't that one yet
abbrev pub with_user : Kept → List ℕ → User → Kept
with_user k t u = with_users k t (with_member u (k.users t))

-- what an operation at a place does
abbrev pub done : Place → Kept → Op → Kept
done at k (op.AddOut u w) = with_op k u at (op.AddOut u w)
done at k (op.AddIn w u) = with_op k w at (op.AddIn w u)
done at k (op.DropOut u w) = with_op k u at (op.DropOut u w)
done at k (op.DropIn w u) = with_op k w at (op.DropIn w u)
done at k (op.MentionOut u w) = with_op k u at (op.MentionOut u w)
done at k (op.MentionIn w u) = with_op k w at (op.MentionIn w u)
done at k (op.Said w) = with_op k w at (op.Said w)
done at k (op.Use u t) = with_op k u at (op.Use u t)
done at k (op.TagUse t u) = with_user k t u

-- numbered operations of a node in an epoch, in turn
abbrev pub done_all : ℕ → ℕ → Kept → List Numbered → Kept
done_all e i k [] = k
done_all e i k (x ∷ xs) = done_all e i (done (record { epoch = record { 0 = e }; ingest = record { 0 = i }; number = x.number }) k x.op) xs
