-- The first entries by an order, in order.
use Rattle.std.proofs.Common.{◌≡◌, ◌+◌, ◌⊎◌, inl, inr, ℕ, false, List, [], ◌∷◌, ◌++◌, length, take, arith, sym, ap, ◌∙◌}
use Rattle.std.specs.Ordering.{is_lt}
use Rattle.std.specs.declared.cmp.Ordering.{Ordering}
use Rattle.std.specs.declared.cmp.Ordering.TheVariants.{Less}
use Rattle.std.specs.List.{All}
use Rattle.std.specs.List.Sorted.{IsPermutation, IsSorted, IsSplitAround}
use Rattle.std.proofs.lemmas.List.Elements.{All-head, All-tail}
use Rattle.std.proofs.lemmas.List.Sorted.{IsPermutation-trans, IsPermutation-cons, IsPermutation-append, All-permutation, length_permutation}
use Rattle.std.proofs.Math.Seq.{take-append_seam}
use native.Mathlib.Numerals.{unary_clauses}
use Rattle.kin_rules.specs.Top.{in_order, Leads, IsInOrder}
use Rattle.kin_rules.proofs.Orders.{IsExact, three_ways, in_order-permutes, is-ordering}

module _ {A : Type 0} {order : A → A → Ordering} (o : IsExact order) where
  -- an entry that x isn't before is before x, or the same
  pub not-before : (x y : A) → is_lt (order x y) ≡ false → (order y x ≡ Less) ⊎ (y ≡ x)
  not-before x y h = here (three_ways o y x)
    where
      here : (order y x ≡ Less) ⊎ ((y ≡ x) ⊎ (order x y ≡ Less)) → (order y x ≡ Less) ⊎ (y ≡ x)
      here (inl less) = inl less
      here (inr (inl same)) = inr same
      here (inr (inr more)) = absurd (let k = rw more at h in (cc))

  sorted-tail : (x : A) (xs : List A) → IsSorted order (x ∷ xs) → IsSorted order xs
  sorted-tail x xs up k d low high = let h = up (k + 1) d (omega arith) (omega arith) in simp unary_clauses (simp unary_clauses at h)

  -- a sorted list is in order
  pub sorted-in-order : (xs : List A) → IsSorted order xs → IsInOrder order xs
  sorted-in-order [] up = tt
  sorted-in-order (x ∷ []) up = (tt, tt)
  sorted-in-order (x ∷ y ∷ ys) up = (not-before y x (up 0 x (omega arith) (omega arith)), sorted-in-order (y ∷ ys) (sorted-tail x (y ∷ ys) up))

  -- x leads a list in which nothing is before it
  pub leads-all : (x : A) (ys : List A) → All (λ y. is_lt (order y x) ≡ false) ys → Leads order x ys
  leads-all x [] all = tt
  leads-all x (y ∷ ys) all = not-before y x (All-head (λ z. is_lt (order z x) ≡ false) y ys all)

  -- a list in order, and after it a list in order that begins with an entry that is before none of the first
  pub joined-in-order : (xs : List A) (x : A) (ys : List A) → IsInOrder order xs → IsInOrder order (x ∷ ys) → All (λ z. is_lt (order x z) ≡ false) xs → IsInOrder order (xs ++ x ∷ ys)
  joined-in-order [] x ys up down all = down
  joined-in-order (z ∷ []) x ys up down all = (not-before x z (All-head (λ z. is_lt (order x z) ≡ false) z [] all), down)
  joined-in-order (z ∷ w ∷ zs) x ys up down all = (up.0, joined-in-order (w ∷ zs) x ys up.1 down (All-tail (λ z. is_lt (order x z) ≡ false) z (w ∷ zs) all))

  -- where none of the back is before x, and x is before none of the front, the front has the first entries
  pub front-first : (entries front : List A) (x : A) (back : List A) → IsPermutation entries (front ++ x ∷ back) → IsSplitAround order front x back
      → take (length front) (in_order order entries) ≡ in_order order front
  front-first entries front x back same split =
      let head : List A = in_order order front in
      let tail : List A = in_order order back in
      let heads : IsPermutation front head = in_order-permutes order front in
      let tails : IsPermutation back tail = in_order-permutes order back in
      let whole : IsPermutation entries (head ++ x ∷ tail) = IsPermutation-trans entries (front ++ x ∷ back) (head ++ x ∷ tail) same (IsPermutation-append front head (x ∷ back) (x ∷ tail) heads (IsPermutation-cons x back tail tails)) in
      let down : IsInOrder order (x ∷ tail) = (leads-all x tail (All-permutation (λ z. is_lt (order z x) ≡ false) back tail tails split.1), (is-ordering o back).ascends) in
      let up : IsInOrder order (head ++ x ∷ tail) = joined-in-order head x tail (is-ordering o front).ascends down (All-permutation (λ z. is_lt (order x z) ≡ false) front head heads split.0) in
      let is : head ++ x ∷ tail ≡ in_order order entries = (is-ordering o entries).only (head ++ x ∷ tail) whole up in
      ap (take (length front)) (sym is) ∙ (ap (λ (n : ℕ). take n (head ++ x ∷ tail)) (sym (length_permutation front head heads)) ∙ take-append_seam head (x ∷ tail))

  -- a sorted permutation is the list in order
  pub sorted-is : (xs ys : List A) → IsPermutation xs ys → IsSorted order ys → ys ≡ in_order order xs
  sorted-is xs ys same up = (is-ordering o xs).only ys same (sorted-in-order ys up)
