-- How a caller meets the conditions of applying a piece.
use Rattle.std.proofs.Common.{◌≡◌, ℕ, ◌+◌, ◌≤◌, ◌%◌, List, All, length, sym, ap, subst, arith}
use Rattle.kin_ids.specs.declared.ids.User.{User}
use Rattle.kin_ids.specs.declared.ops.Piece.{Piece}
use Rattle.kin_ids.specs.declared.ops.Numbered.{Numbered}
use Rattle.kin_ids.specs.declared.ops.Op.{Op}
use Rattle.kin_ids.specs.declared.ops.Op.TheVariants as op
use Rattle.kin_ids.specs.declared.ops.Record.{Record}
use Rattle.kin_ids.specs.Operations.{Fits, op_part, stamp_records}
use Rattle.kin_ids.specs.Parts.{PartView}
use Rattle.kin_ids.proofs.PartOps.{ops-said, part-home}
use Rattle.kin_store.proofs.Empties.{empty-row}
use Rattle.kin_graph.specs.Rows.{UserRow}
use Rattle.kin_graph.specs.State.{after, empty_part, view_of}

-- a fitting piece has operations of its own partition alone
pub fits-home : (parts : ℕ) (feeds : List (List Record)) (x : Piece) → Fits parts feeds x
    → All (λ (o : Numbered). op_part parts o.op ≡ x.part.0) x.ops
fits-home parts feeds x fits =
    subst (λ (ops : List Numbered). All (λ (o : Numbered). op_part parts o.op ≡ x.part.0) ops) (sym fits.exact)
    (part-home parts x.part.0 x.stamp.from (stamp_records feeds x.stamp))

-- a number of `said` grows by at most one an operation
pub after-said : (e : ℕ) (x : Piece) (v : PartView) (u : User) → (after e x v).said u ≤ v.said u + length x.ops
after-said e x v u = ops-said e x.stamp.ingest.0 v x.ops u

mod_one : (n : ℕ) → n % 1 ≡ 0
mod_one n = omega arith

-- where there is one partition, all operations are its own
pub one-home : (o : Op) → op_part 1 o ≡ 0
one-home (op.AddOut u v) = mod_one u.0
one-home (op.AddIn v u) = mod_one v.0
one-home (op.DropOut u v) = mod_one u.0
one-home (op.DropIn v u) = mod_one v.0
one-home (op.MentionOut u w) = mod_one u.0
one-home (op.MentionIn w u) = mod_one w.0
one-home (op.Said w) = mod_one w.0
one-home (op.Use u t) = mod_one u.0
one-home (op.TagUse t u) = mod_one _

-- nobody was mentioned yet in an empty store
pub empty-said : (p n : ℕ) (u : User) → (view_of (empty_part p n)).said u ≡ 0
empty-said p n u = ap (λ (r : UserRow). r.said) (empty-row p n u)
