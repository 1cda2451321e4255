-- Operations in turn: one more of them, and counts that grow.
use Rattle.std.proofs.Common.{◌≡◌, ℕ, suc, ◌+◌, ◌<◌, ◌≤◌, Bool, true, false, if◌then◌else◌, List, [], ◌∷◌, length, get_or, drop}
use Rattle.std.proofs.Common.{drop-cons, refl, sym, ap, ◌∙◌, subst, arith, add-one}
use Rattle.kin_ids.specs.declared.ids.User.{User}
use Rattle.kin_ids.specs.declared.stamps.Place.{Place}
use Rattle.kin_ids.specs.declared.ops.Op.{Op}
use Rattle.kin_ids.specs.declared.ops.Op.TheVariants as op
use Rattle.kin_ids.specs.declared.ops.Numbered.{Numbered}
use Rattle.kin_ids.specs.Users.{same_user}
use Rattle.kin_ids.proofs.Same.{same_user-true}
use Rattle.kin_graph.specs.Rows.{UserRow, row_applied}
use Rattle.kin_graph.specs.Changes.{Kept, with_row, done, done_all}

abbrev pub place_in : ℕ → ℕ → Numbered → Place
place_in e i x = record { epoch = record { 0 = e }; ingest = record { 0 = i }; number = x.number }

-- one operation more
pub done_all-more : (e i : ℕ) (k : Kept) (ops : List Numbered) (n : ℕ) (x : Numbered) → n < length ops → x ≡ get_or ops n x
    → done_all e i k (drop n ops) ≡ done_all e i (done (place_in e i x) k x.op) (drop (n + 1) ops)
done_all-more e i k ops n x within is =
    ap (λ (xs : List Numbered). done_all e i k xs) (drop-cons ops n x within ∙ ap (λ (y : Numbered). y ∷ drop (suc n) ops) (sym is))
    ∙ rw add-one refl

row-grows : (at : Place) (r : UserRow) (o : Op) → r.said ≤ (row_applied at r o).said
row-grows at r (op.AddOut u w) = omega arith
row-grows at r (op.AddIn w u) = omega arith
row-grows at r (op.DropOut u w) = omega arith
row-grows at r (op.DropIn w u) = omega arith
row-grows at r (op.MentionOut u w) = omega arith
row-grows at r (op.MentionIn w u) = omega arith
row-grows at r (op.Said w) = omega arith
row-grows at r (op.Use u t) = omega arith
row-grows at r (op.TagUse t u) = omega arith

with_row-grows : (k : Kept) (w : User) (r : UserRow) (u : User) → (k.row w).said ≤ r.said → (k.row u).said ≤ ((with_row k w r).row u).said
with_row-grows k w r u h = by_test (same_user w u) refl where
  by_test : (b : Bool) → same_user w u ≡ b → (k.row u).said ≤ (if b then r else k.row u).said
  by_test true t = subst (λ (v : User). (k.row v).said ≤ r.said) (same_user-true w u t) h
  by_test false t = omega arith

done-grows : (at : Place) (k : Kept) (o : Op) (u : User) → (k.row u).said ≤ ((done at k o).row u).said
done-grows at k (op.AddOut w x) u = with_row-grows k w _ u (row-grows at (k.row w) (op.AddOut w x))
done-grows at k (op.AddIn w x) u = with_row-grows k w _ u (row-grows at (k.row w) (op.AddIn w x))
done-grows at k (op.DropOut w x) u = with_row-grows k w _ u (row-grows at (k.row w) (op.DropOut w x))
done-grows at k (op.DropIn w x) u = with_row-grows k w _ u (row-grows at (k.row w) (op.DropIn w x))
done-grows at k (op.MentionOut w x) u = with_row-grows k w _ u (row-grows at (k.row w) (op.MentionOut w x))
done-grows at k (op.MentionIn w x) u = with_row-grows k w _ u (row-grows at (k.row w) (op.MentionIn w x))
done-grows at k (op.Said w) u = with_row-grows k w _ u (row-grows at (k.row w) (op.Said w))
done-grows at k (op.Use w t) u = with_row-grows k w _ u (row-grows at (k.row w) (op.Use w t))
done-grows at k (op.TagUse t w) u = omega arith

-- numbers of `said` never fall
pub done_all-grows : (e i : ℕ) (k : Kept) (ops : List Numbered) (u : User) → (k.row u).said ≤ ((done_all e i k ops).row u).said
done_all-grows e i k [] u = omega arith
done_all-grows e i k (x ∷ xs) u = omega (
  arith,
  done-grows (place_in e i x) k x.op u,
  done_all-grows e i
      (done (place_in e i x) k x.op) xs u,
)
