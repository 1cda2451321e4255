-- Lists of stamps that begin alike.
use Rattle.std.proofs.Common.{◌≡◌, ℕ, zero, suc, ◌<◌, ◌≤◌, true, leb, ◌⊎◌, inl, inr, ⊎_elim, List, [], ◌∷◌, ◌++◌, length, take, drop}
use Rattle.std.proofs.Common.{get_or, refl, sym, ◌∙◌, ap, arith, append_assoc}
use Rattle.std.specs.Prelude.{All}
use Rattle.std.proofs.lemmas.Bool.{cond_both, cond-true, leb-true, le-leb, or_cases, or_left, or_right, false≢true}
use Rattle.std.proofs.lemmas.List.{append-nil, take-append-drop}
use Rattle.std.proofs.lemmas.List.Elements.{All-nil, All-cons, All-head, All-tail, All-from_get_or}
use Rattle.std.proofs.Math.Seq.{take-append_seam}
use Rattle.kin_ids.specs.declared.stamps.Stamp.{Stamp}
use Rattle.kin_ids.specs.Lines.{same_stamp, has, end_of, upto, past}
use Rattle.kin_ids.proofs.Lines.{same_stamp-refl, same_from_test, upto-past}
use Rattle.kin_hub.specs.Fronts.{common, common_with, common_of, IsFront, IsLongestFront}

pub record Begins (front xs : List Stamp) : Type 0 where
  pub rest : List Stamp
  pub is : xs ≡ front ++ rest

pub begins-front : (front xs : List Stamp) → Begins front xs → IsFront front xs
begins-front front xs b = ap (take (length front)) b.is ∙ take-append_seam front b.rest

front-begins : (front xs : List Stamp) → IsFront front xs → Begins front xs
front-begins front xs f = record {
  rest = drop (length front) xs;
  is = sym (take-append-drop (length front) xs)
      ∙ ap (λ ys. ys ++ drop (length front) xs) f;
}

begins-all : (xs : List Stamp) → Begins xs xs
begins-all xs = record { rest = []; is = sym (append-nil xs) }

pub begins-through : (xs ys zs : List Stamp) → Begins xs ys → Begins ys zs → Begins xs zs
begins-through xs ys zs first second = record {
  rest = first.rest ++ second.rest;
  is = second.is
      ∙ (ap (λ vs. vs ++ second.rest) first.is ∙ append_assoc xs first.rest second.rest);
}

pub begins-upto : (to : ℕ) (xs : List Stamp) → Begins (upto to xs) xs
begins-upto to xs = record { rest = past to xs; is = sym (upto-past to xs) }

common-first : (xs ys : List Stamp) → Begins (common xs ys) xs
common-first [] ys = begins-all []
common-first (x ∷ xs) [] = record { rest = x ∷ xs; is = refl }
common-first (x ∷ xs) (y ∷ ys) = let ih = common-first xs ys in cond_both (same_stamp x y) (x ∷ common xs ys) [] (λ zs. Begins zs (x ∷ xs))
    (λ _. record { rest = ih.rest; is = ap (λ vs. x ∷ vs) ih.is }) (λ _. record { rest = x ∷ xs; is = refl })

common-second : (xs ys : List Stamp) → Begins (common xs ys) ys
common-second [] ys = record { rest = ys; is = refl }
common-second (x ∷ xs) [] = begins-all []
common-second (x ∷ xs) (y ∷ ys) = let ih = common-second xs ys in
    cond_both (same_stamp x y) (x ∷ common xs ys) [] (λ zs. Begins zs (y ∷ ys))
    (λ t. record { rest = ih.rest; is = ap (λ vs. y ∷ vs) ih.is ∙ ap (λ z. z ∷ common xs ys ++ ih.rest) (sym (same_from_test x y t)) })
    (λ _. record { rest = y ∷ ys; is = refl })

common_with-first : (xs : List Stamp) (rest : List (List Stamp)) → Begins (common_with xs rest) xs
common_with-first xs [] = begins-all xs
common_with-first xs (ys ∷ rest) = begins-through (common_with (common xs ys) rest) (common xs ys) xs
    (common_with-first (common xs ys) rest) (common-first xs ys)

common_with-each : (xs : List Stamp) (rest : List (List Stamp)) (k : ℕ) → k < length rest → Begins (common_with xs rest) (get_or rest k [])
common_with-each xs [] k lt = absurd (omega arith)
common_with-each xs (ys ∷ rest) zero lt = begins-through (common_with (common xs ys) rest) (common xs ys) ys
    (common_with-first (common xs ys) rest) (common-second xs ys)
common_with-each xs (ys ∷ rest) (suc k) lt = common_with-each (common xs ys) rest k (omega arith)

-- what the lists have in common begins each
pub common_of-each : (lists : List (List Stamp)) (k : ℕ) → k < length lists → Begins (common_of lists) (get_or lists k [])
common_of-each [] k lt = absurd (omega arith)
common_of-each (xs ∷ rest) zero lt = common_with-first xs rest
common_of-each (xs ∷ rest) (suc k) lt = common_with-each xs rest k (omega arith)

-- and what begins each begins that
common-longest : (os xs ys : List Stamp) → Begins os xs → Begins os ys → Begins os (common xs ys)
common-longest [] xs ys first second = record { rest = common xs ys; is = refl }
common-longest (o ∷ os) xs ys first second =
    let ih = common-longest os (os ++ first.rest) (os ++ second.rest) (record { rest = first.rest; is = refl })
    (record { rest = second.rest; is = refl }) in
    rw (first.is, second.is, same_stamp-refl o) (record { rest = ih.rest; is = ap (λ vs. o ∷ vs) ih.is })

common_with-longest : (os xs : List Stamp) (rest : List (List Stamp)) → Begins os xs → All (λ (ys : List Stamp). IsFront os ys) rest
    → Begins os (common_with xs rest)
common_with-longest os xs [] first all = first
common_with-longest os xs (ys ∷ rest) first all =
    common_with-longest os (common xs ys) rest
    (common-longest os xs ys first (front-begins os ys (All-head (λ (zs : List Stamp). IsFront os zs) ys rest all)))
    (All-tail (λ (zs : List Stamp). IsFront os zs) ys rest all)

common_of-longest : (os : List Stamp) (lists : List (List Stamp)) → 0 < length lists → All (λ (ys : List Stamp). IsFront os ys) lists
    → Begins os (common_of lists)
common_of-longest os [] some all = absurd (omega arith)
common_of-longest os (xs ∷ rest) some all =
    common_with-longest os xs rest (front-begins os xs (All-head (λ (zs : List Stamp). IsFront os zs) xs rest all))
    (All-tail (λ (zs : List Stamp). IsFront os zs) xs rest all)

upto-longest : (to : ℕ) (os rest : List Stamp) → All (λ (s : Stamp). s.to ≤ to) os → length os ≤ length (upto to (os ++ rest))
upto-longest to [] rest all = omega arith
upto-longest to (o ∷ os) rest all =
    let low : o.to ≤ to = All-head (λ (s : Stamp). s.to ≤ to) o os all in
    let ih = upto-longest to os rest (All-tail (λ (s : Stamp). s.to ≤ to) o os all) in
    rw (cond-true (leb o.to to) (o ∷ upto to (os ++ rest)) [] (le-leb _ _ low)) (omega arith)

pub upto-all : (to : ℕ) (xs : List Stamp) → All (λ (s : Stamp). s.to ≤ to) (upto to xs)
upto-all to [] = All-nil (λ (s : Stamp). s.to ≤ to)
upto-all to (x ∷ xs) = cond_both (leb x.to to) (x ∷ upto to xs) [] (λ ys. All (λ (s : Stamp). s.to ≤ to) ys)
    (λ t. All-cons (λ (s : Stamp). s.to ≤ to) x (upto to xs) (leb-true _ _ t) (upto-all to xs)) (λ _. All-nil (λ (s : Stamp). s.to ≤ to))

-- what the lists have in common, cut at a position, is the longest front of all that ends there or before
pub longest-front : (to : ℕ) (lists : List (List Stamp)) → 0 < length lists → IsLongestFront to lists (upto to (common_of lists))
longest-front to lists some = record {
  shared = All-from_get_or (λ (xs : List Stamp). IsFront (upto to (common_of lists)) xs) lists []
      (λ k lt. begins-front (upto to (common_of lists)) (get_or lists k [])
      (begins-through (upto to (common_of lists)) (common_of lists) (get_or lists k []) (begins-upto to (common_of lists))
      (common_of-each lists k lt)));
  within = upto-all to (common_of lists);
  longest = λ other shared within. let b = common_of-longest other lists some shared in rw b.is (upto-longest to other b.rest within);
}

-- where what is cut at a position ends
pub upto-within : (at to : ℕ) (xs : List Stamp) → (end_of at (upto to xs) ≡ at) ⊎ (end_of at (upto to xs) ≤ to)
upto-within at to [] = inl refl
upto-within at to (x ∷ xs) = cond_both (leb x.to to) (x ∷ upto to xs) [] (λ ys. (end_of at ys ≡ at) ⊎ (end_of at ys ≤ to))
    (λ t. let low = leb-true _ _ t in inr (⊎_elim (λ (e : end_of x.to (upto to xs) ≡ x.to). omega arith)
    (λ (le : end_of x.to (upto to xs) ≤ to). le) (upto-within x.to to xs)))
    (λ _. inl refl)

-- a stamp of two lists joined is of one of them
pub has-either : (xs ys : List Stamp) (s : Stamp) → has (xs ++ ys) s ≡ true → (has xs s ≡ true) ⊎ (has ys s ≡ true)
has-either [] ys s h = inr h
has-either (x ∷ xs) ys s h = ⊎_elim (λ (e : same_stamp x s ≡ true). inl (or_left _ _ e))
    (λ (t : has (xs ++ ys) s ≡ true). ⊎_elim (λ (k : has xs s ≡ true). inl (or_right (same_stamp x s) _ k)) (λ (k : has ys s ≡ true). inr k)
    (has-either xs ys s t)) (or_cases _ _ h)

pub has-left : (xs ys : List Stamp) (s : Stamp) → has xs s ≡ true → has (xs ++ ys) s ≡ true
has-left [] ys s h = absurd (false≢true h)
has-left (x ∷ xs) ys s h = ⊎_elim (λ (e : same_stamp x s ≡ true). or_left _ _ e) (λ (t : has xs s ≡ true). or_right (same_stamp x s) _
    (has-left xs ys s t)) (or_cases _ _ h)

pub has-right : (xs ys : List Stamp) (s : Stamp) → has ys s ≡ true → has (xs ++ ys) s ≡ true
has-right [] ys s h = h
has-right (x ∷ xs) ys s h = or_right (same_stamp x s) _ (has-right xs ys s h)
