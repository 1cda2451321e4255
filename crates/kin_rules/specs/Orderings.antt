-- A list is put in order in one way.
use Rattle.std.proofs.Common.{◌≡◌, ◌+◌, ◌∙◌, ◌⊎◌, inl, inr, ℕ, Bool, true, false, List, [], ◌∷◌, if◌then◌else◌, cond, arith, refl, sym, subst, ap}
use Rattle.std.specs.Ordering.{ordering_reverse, ordering_then, is_lt}
use Rattle.std.specs.declared.cmp.Ordering.{Ordering}
use Rattle.std.specs.declared.cmp.Ordering.TheVariants.{Less, Equal, Greater}
use Rattle.std.specs.Cmp.{IsTotalOrder}
use Rattle.std.specs.List.{count_by}
use Rattle.std.specs.List.Sorted.{IsPermutation}
use Rattle.std.proofs.lemmas.Cmp.{tied_itself}
use Rattle.std.proofs.lemmas.List.Sums.{sum_by-cons}
use Rattle.std.proofs.lemmas.List.Sorted.{IsPermutation-refl, IsPermutation-sym, IsPermutation-trans, IsPermutation-cons, IsPermutation-middle, sum_by-IsPermutation}
use Rattle.kin_rules.specs.Top.{placed, in_order, Leads, IsInOrder, IsOrdering}

-- an order in which two entries that tie are one
pub record IsExact {A : Type 0} (order : A → A → Ordering) : Type 0 where
  pub total : IsTotalOrder order
  pub exact : (x y : A) → order x y ≡ Equal → x ≡ y

-- what ties by two orders ties by each
pub both-tie : (r s : Ordering) → ordering_then r s ≡ Equal → (r ≡ Equal) × (s ≡ Equal)
both-tie Less s h = absurd cc
both-tie Equal s h = (refl, h)
both-tie Greater s h = absurd cc

pub three_ways : {A : Type 0} {order : A → A → Ordering} → IsExact order → (x y : A) → (order x y ≡ Less) ⊎ ((x ≡ y) ⊎ (order y x ≡ Less))
three_ways {order = order} o x y = here (order x y) refl
  where
    here : (r : Ordering) → order x y ≡ r → (order x y ≡ Less) ⊎ ((x ≡ y) ⊎ (order y x ≡ Less))
    here Less e = inl e
    here Equal e = inr (inl (o.exact x y e))
    here Greater e = inr (inr (o.total.antisymm y x ∙ ap ordering_reverse e))

-- what comes after an entry that isn't before w isn't either
after : {A : Type 0} {order : A → A → Ordering} → IsExact order → (w z y : A) → is_lt (order z w) ≡ false → (order z y ≡ Less) ⊎ (z ≡ y) → is_lt (order y w) ≡ false
after {order = order} o w z y h (inr e) = subst (λ (x : _). is_lt (order x w) ≡ false) e h
after {order = order} o w z y h (inl e) = here (order y w) refl
  where
    here : (r : Ordering) → order y w ≡ r → is_lt r ≡ false
    here Less q = absurd (let less : order z w ≡ Less = o.total.trans z y w e q in (cc))
    here Equal q = refl
    here Greater q = refl

pub count-cons : {A : Type 0} (p : A → Bool) (x : A) (xs : List A) → count_by p (x ∷ xs) ≡ cond (p x) 1 0 + count_by p xs
count-cons p x xs = sum_by-cons (λ y. cond (p y) 1 0) x xs

abbrev early : {A : Type 0} → (A → A → Ordering) → A → A → Bool
early order w x = is_lt (order x w)

-- in a list in order that begins with no entry before w, none is before w
none-early : {A : Type 0} {order : A → A → Ordering} → IsExact order → (w z : A) (zs : List A) → is_lt (order z w) ≡ false → IsInOrder order (z ∷ zs) → count_by (early order w) (z ∷ zs) ≡ 0
none-early {order = order} o w z [] h up = count-cons (early order w) z [] ∙ rw h refl
none-early {order = order} o w z (y ∷ ys) h up = count-cons (early order w) z (y ∷ ys) ∙ rw (h, none-early o w y ys (after o w z y h up.0) up.1) refl

-- lists of which as many entries pass each test
abbrev pub AreAlike : {A : Type 0} → List A → List A → Type 0
AreAlike {A} xs ys = (p : A → Bool) → count_by p xs ≡ count_by p ys

-- an entry before all of another list isn't in it
apart : {A : Type 0} {order : A → A → Ordering} → IsExact order → (x y : A) (xs ys : List A) → order x y ≡ Less → IsInOrder order (y ∷ ys) → AreAlike (x ∷ xs) (y ∷ ys) → ⊥
apart {order = order} o x y xs ys less up alike =
    let none : count_by (early order y) (y ∷ ys) ≡ 0 = none-early o y y ys (rw (tied_itself o.total y) refl) up in
    let one : count_by (early order y) (x ∷ xs) ≡ 1 + count_by (early order y) xs = count-cons (early order y) x xs ∙ rw less refl in
    let both : count_by (early order y) (x ∷ xs) ≡ count_by (early order y) (y ∷ ys) = alike (early order y) in
    omega (arith, none, one, both)

-- two lists in order that are alike are one
one-order : {A : Type 0} {order : A → A → Ordering} → IsExact order → (xs ys : List A) → IsInOrder order xs → IsInOrder order ys → AreAlike xs ys → xs ≡ ys
one-order o [] [] up down alike = refl
one-order o [] (y ∷ ys) up down alike = absurd (let e = alike (λ _. true) in let k = count-cons (λ _. true) y ys in omega (arith, e, k))
one-order o (x ∷ xs) [] up down alike = absurd (let e = alike (λ _. true) in let k = count-cons (λ _. true) x xs in omega (arith, e, k))
one-order {A = A} {order = order} o (x ∷ xs) (y ∷ ys) up down alike = here (three_ways o x y) (λ k. one-order o xs ys up.1 down.1 k)
  where
    rest : x ≡ y → AreAlike xs ys
    rest e p =
        let k : cond (p x) 1 0 + count_by p xs ≡ cond (p y) 1 0 + count_by p ys = sym (count-cons p x xs) ∙ alike p ∙ count-cons p y ys in
        let f : A → ℕ = λ z. cond (p z) 1 0 in
        let same : f x ≡ f y = ap f e in
        omega (arith, k, same)

    here : (order x y ≡ Less) ⊎ ((x ≡ y) ⊎ (order y x ≡ Less)) → (AreAlike xs ys → xs ≡ ys) → x ∷ xs ≡ y ∷ ys
    here (inl less) more = absurd (apart o x y xs ys less down alike)
    here (inr (inr less)) more = absurd (apart o y x ys xs less up (λ p. sym (alike p)))
    here (inr (inl e)) more = let tails = more (rest e) in cc

pub placed-permutes : {A : Type 0} (order : A → A → Ordering) (x : A) (xs : List A) → IsPermutation (x ∷ xs) (placed order x xs)
placed-permutes order x [] = IsPermutation-refl (x ∷ [])
placed-permutes order x (y ∷ ys) = here (is_lt (order y x)) (placed-permutes order x ys)
  where
    here : (b : Bool) → IsPermutation (x ∷ ys) (placed order x ys) → IsPermutation (x ∷ y ∷ ys) (if b then y ∷ placed order x ys else x ∷ y ∷ ys)
    here true more =
        IsPermutation-trans (x ∷ y ∷ ys) (y ∷ x ∷ ys) (y ∷ placed order x ys) (IsPermutation-sym (y ∷ x ∷ ys) (x ∷ y ∷ ys) (IsPermutation-middle (y ∷ []) x ys))
        (IsPermutation-cons y (x ∷ ys) (placed order x ys) more)
    here false more = IsPermutation-refl (x ∷ y ∷ ys)

pub in_order-permutes : {A : Type 0} (order : A → A → Ordering) (xs : List A) → IsPermutation xs (in_order order xs)
in_order-permutes order [] = IsPermutation-refl []
in_order-permutes order (x ∷ xs) =
    IsPermutation-trans (x ∷ xs) (x ∷ in_order order xs) (placed order x (in_order order xs)) (IsPermutation-cons x xs (in_order order xs) (in_order-permutes order xs))
    (placed-permutes order x (in_order order xs))

less-is : (r : Ordering) → is_lt r ≡ true → r ≡ Less
less-is Less h = refl
less-is Equal h = absurd cc
less-is Greater h = absurd cc

-- y before x leads x in its place, where it led the list
leads-placed : {A : Type 0} (order : A → A → Ordering) (x y : A) (ys : List A) → order y x ≡ Less → Leads order y ys → Leads order y (placed order x ys)
leads-placed order x y [] less up = inl less
leads-placed order x y (z ∷ zs) less up = here (is_lt (order z x))
  where
    here : (b : Bool) → Leads order y (if b then z ∷ placed order x zs else x ∷ z ∷ zs)
    here true = up
    here false = inl less

placed-ordered : {A : Type 0} {order : A → A → Ordering} → IsExact order → (x : A) (xs : List A) → IsInOrder order xs → IsInOrder order (placed order x xs)
placed-ordered o x [] up = (tt, tt)
placed-ordered {order = order} o x (y ∷ ys) up = here (is_lt (order y x)) refl (placed-ordered o x ys up.1)
  where
    first : is_lt (order y x) ≡ false → (order x y ≡ Less) ⊎ ((x ≡ y) ⊎ (order y x ≡ Less)) → (order x y ≡ Less) ⊎ (x ≡ y)
    first q (inl less) = inl less
    first q (inr (inl same)) = inr same
    first q (inr (inr more)) = absurd (let k : is_lt (order y x) ≡ true = rw more refl in (cc))

    here : (b : Bool) → is_lt (order y x) ≡ b → IsInOrder order (placed order x ys) → IsInOrder order (if b then y ∷ placed order x ys else x ∷ y ∷ ys)
    here true q more = (leads-placed order x y ys (less-is (order y x) q) up.0, more)
    here false q more = (first q (three_ways o x y), up)

in_order-ordered : {A : Type 0} {order : A → A → Ordering} → IsExact order → (xs : List A) → IsInOrder order (in_order order xs)
in_order-ordered o [] = tt
in_order-ordered {order = order} o (x ∷ xs) = placed-ordered o x (in_order order xs) (in_order-ordered o xs)

-- as many entries pass each test in each order of a list
alike-ordered : {A : Type 0} (order : A → A → Ordering) (xs ys : List A) → IsPermutation xs ys → AreAlike ys (in_order order xs)
alike-ordered {A = A} order xs ys same p =
    let f : A → ℕ = λ x. cond (p x) 1 0 in
    sum_by-IsPermutation f xs ys same ∙ sym (sum_by-IsPermutation f xs (in_order order xs) (in_order-permutes order xs))

-- lists that are alike are one in order
pub alike-in-order : {A : Type 0} {order : A → A → Ordering} → IsExact order → (xs ys : List A) → AreAlike xs ys → in_order order xs ≡ in_order order ys
alike-in-order {order = order} o xs ys alike =
    one-order o (in_order order xs) (in_order order ys) (in_order-ordered o xs) (in_order-ordered o ys)
    (λ p. sym (alike-ordered order xs xs (IsPermutation-refl xs) p) ∙ alike p ∙ alike-ordered order ys ys (IsPermutation-refl ys) p)

pub is-ordering : {A : Type 0} {order : A → A → Ordering} → IsExact order → (xs : List A) → IsOrdering order xs (in_order order xs)
is-ordering {A = A} {order = order} o xs = record {
  same = in_order-permutes order xs;
  ascends = in_order-ordered o xs;
  only = only;
}
  where
    only : (other : List A) → IsPermutation xs other → IsInOrder order other → other ≡ in_order order xs
    only other p up = one-order o other (in_order order xs) up (in_order-ordered o xs) (alike-ordered order xs other p)
