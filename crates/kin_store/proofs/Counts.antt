-- By how much an operation raises a count of mentions.
use Rattle.std.proofs.Common.{◌≡◌, ℕ, ◌+◌, ◌<◌, ◌≤◌, ◌^◌, ◌%◌, Bool, true, false, if◌then◌else◌, refl, sym, ap, ◌∙◌, subst, arith}
use Rattle.std.specs.Cmp.{Equal-is}
use Rattle.kin_ids.specs.declared.ids.User.{User}
use Rattle.kin_ids.specs.declared.stamps.Place.{Place}
use Rattle.kin_ids.specs.declared.ops.Op.{Op}
use Rattle.kin_ids.specs.declared.ops.Op.TheVariants as op
use Rattle.kin_ids.specs.Users.{user_cmp, same_user}
use Rattle.kin_ids.specs.Operations.{op_part}
use Rattle.kin_store.specs.Rows.{UserRow, row_applied}
use Rattle.kin_store.specs.Changes.{Kept, kept, with_row, done}
use Rattle.kin_store.specs.State.{PartState, empty_part, row_of}
use Rattle.kin_store.specs.Hints.{IndexView, IsIndexed, empty_index}
use Rattle.kin_store.proofs.Preceding.{indexed-empty}
use Rattle.kin_store.proofs.Empties.{empty-row}
use Rattle.kin_store.proofs.Orders.{user_exact}

said-row : (k : Kept) (u : User) (r : UserRow) → r.said ≤ (k.row u).said + 1 → (q : User) → ((with_row k u r).row q).said
    ≤ (k.row q).said + 1
said-row k u r h q = by_test (same_user u q) refl where
  by_test : (b : Bool) → same_user u q ≡ b → (if b then r else k.row q).said ≤ (k.row q).said + 1
  by_test true t = subst (λ (v : User). r.said ≤ (k.row v).said + 1) (user_exact u q ((Equal-is (user_cmp u q)).0 t)) h
  by_test false t = omega arith

pub said-done : (at : Place) (k : Kept) (o : Op) (q : User) → ((done at k o).row q).said ≤ (k.row q).said + 1
said-done at k (op.AddOut u w) = said-row k u (row_applied at (k.row u) (op.AddOut u w)) (omega arith)
said-done at k (op.AddIn w u) = said-row k w (row_applied at (k.row w) (op.AddIn w u)) (omega arith)
said-done at k (op.DropOut u w) = said-row k u (row_applied at (k.row u) (op.DropOut u w)) (omega arith)
said-done at k (op.DropIn w u) = said-row k w (row_applied at (k.row w) (op.DropIn w u)) (omega arith)
said-done at k (op.MentionOut u w) = said-row k u (row_applied at (k.row u) (op.MentionOut u w)) (omega arith)
said-done at k (op.MentionIn w u) = said-row k w (row_applied at (k.row w) (op.MentionIn w u)) (omega arith)
said-done at k (op.Said w) = said-row k w (row_applied at (k.row w) (op.Said w)) (omega arith)
said-done at k (op.Use u t) = said-row k u (row_applied at (k.row u) (op.Use u t)) (omega arith)
said-done at k (op.TagUse t u) = λ q. omega arith

mod_one : (n : ℕ) → n % 1 ≡ 0
mod_one n = omega arith

-- where there is one partition, all operations are its own
pub one-home : (o : Op) → op_part 1 o ≡ 0
one-home (op.AddOut u v) = mod_one u.0
one-home (op.AddIn v u) = mod_one v.0
one-home (op.DropOut u v) = mod_one u.0
one-home (op.DropIn v u) = mod_one v.0
one-home (op.MentionOut u w) = mod_one u.0
one-home (op.MentionIn w u) = mod_one w.0
one-home (op.Said w) = mod_one w.0
one-home (op.Use u t) = mod_one u.0
one-home (op.TagUse t u) = mod_one _

pub one-here : (part parts : ℕ) (o : Op) → part ≡ 0 → parts ≡ 1 → op_part parts o ≡ part
one-here part parts o zero one = ap (λ (n : ℕ). op_part n o) one ∙ (one-home o ∙ sym zero)

-- after one operation more, counts are at most one more
pub few-done : (s t : PartState) (at : Place) (o : Op) (n : ℕ) → kept t ≡ done at (kept s) o → ((u : User) → (row_of s u).said ≤ n)
    → (u : User) → (row_of t u).said ≤ n + 1
few-done s t at o n e h u = omega (arith, ap (λ (k : Kept). (k.row u).said) e, said-done at (kept s) o u, h u)

pub few-said : (s : PartState) (at : Place) (o : Op) (n : ℕ) → n < 2 ^ 32 → ((u : User) → (row_of s u).said ≤ n) → (u : User)
    → ((done at (kept s) o).row u).said < 2 ^ 64
few-said s at o n small h u = omega (arith, said-done at (kept s) o u, h u, small)

-- an empty store of the only partition, and an index that knows nothing
pub written-none : (s : PartState) (x : IndexView) → s ≡ empty_part 0 1 → x ≡ empty_index → IsIndexed (kept s) x
    × (((s.part ≡ 0) × (s.parts ≡ 1)) × ((u : User) → (row_of s u).said ≤ 0))
written-none s x e f = (
  subst (λ (t : PartState). IsIndexed (kept t) x) (sym e) (subst (λ (y : IndexView). IsIndexed (kept (empty_part 0 1)) y) (sym f)
      (indexed-empty 0 1)),
  (
    (ap (λ (t : PartState). t.part) e, ap (λ (t : PartState). t.parts) e),
    λ u. omega (arith, ap (λ (t : PartState). (row_of t u).said) e, ap (λ (r : UserRow). r.said) (empty-row 0 1 u)),
  ),
)
