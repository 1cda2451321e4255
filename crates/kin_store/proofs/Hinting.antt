-- Where the first item that passes a test stands, by a scan of the first items and a hint.
use Rattle.std.proofs.Common.{◌≡◌, ℕ, ◌<◌, ◌≤◌, Bool, true, false, List, Option, Some, None, is_some, length, take}
use Rattle.std.proofs.Common.{drop, get_or, position, refl, sym, ap, ◌∙◌, subst, arith}
use Rattle.std.specs.List.{position_from}
use Rattle.std.proofs.lemmas.List.{take-append-drop, length-take}
use Rattle.std.proofs.lemmas.List.Folds.{list_any_at}
use Rattle.std.proofs.lemmas.List.Quantifiers.{position-Some}
use Rattle.kin_store.proofs.Places.{or_else, from_above, position-append, position-below, list_any-position}

module _ {X : Type 0} (p : X → Bool) (xs : List X) where
  split : (n : ℕ) → position p xs ≡ or_else (position p (take n xs)) (position_from p (length (take n xs)) (drop n xs))
  split n = sym (ap (position p) (take-append-drop n xs)) ∙ position-append p (take n xs) (drop n xs)

  -- found among the first
  pub head-found : (n i : ℕ) → Some i ≡ position p (take n xs) → Some i ≡ position p xs
  head-found n i e = sym (split n ∙ ap (λ (o : Option ℕ). or_else o (position_from p (length (take n xs)) (drop n xs))) (sym e))

  -- or past them
  pub head-past : (n i : ℕ) → position p (take n xs) ≡ None → position p xs ≡ Some i → n ≤ i
  head-past n i none e =
      let after : position_from p (length (take n xs)) (drop n xs) ≡ Some i =
      sym (ap (λ (o : Option ℕ). or_else o (position_from p (length (take n xs)) (drop n xs))) none) ∙ (sym (split n) ∙ e) in
      let above : length (take n xs) ≤ i = from_above p (length (take n xs)) (drop n xs) i after in
      let below : i < length xs = position-below p xs i e in
      omega (arith, length-take n xs, above, below)

  there_is : (o : Option ℕ) → is_some o ≡ true → (j : ℕ) × (o ≡ Some j)
  there_is None e = absurd cc
  there_is (Some j) e = (j, refl)

  module _ (n : ℕ) (hint : Option ℕ) (right : (i : ℕ) → n ≤ i → position p xs ≡ Some i → hint ≡ Some i)
      (none : position p (take n xs) ≡ None) where
    pub hint-yes : (at : ℕ) (d : X) → hint ≡ Some at → at < length xs → p (get_or xs at d) ≡ true → Some at ≡ position p xs
    hint-yes at d is within so =
        let some : is_some (position p xs) ≡ true = sym (list_any-position p xs) ∙ list_any_at p xs at d within so in
        let found = there_is (position p xs) some in
        let same : Some at ≡ Some found.0 = sym is ∙ right found.0 (head-past n found.0 none found.1) found.1 in
        same ∙ sym found.1

    pub hint-none : hint ≡ None → None ≡ position p xs
    hint-none is = by_case (position p xs) refl where
      by_case : (o : Option ℕ) → position p xs ≡ o → None ≡ position p xs
      by_case None e = sym e
      by_case (Some j) e = let bad : None ≡ Some j = sym is ∙ right j (head-past n j none e) e in absurd cc

    pub hint-other : (at : ℕ) (d : X) → hint ≡ Some at → p (get_or xs at d) ≡ false → None ≡ position p xs
    hint-other at d is unlike = by_case (position p xs) refl where
      by_case : (o : Option ℕ) → position p xs ≡ o → None ≡ position p xs
      by_case None e = sym e
      by_case (Some j) e =
          let bad : Some at ≡ Some j = sym is ∙ right j (head-past n j none e) e in
          let same : j ≡ at = cc in
          let found = position-Some p xs j d e in
          let like : p (get_or xs at d) ≡ true = subst (λ (m : ℕ). p (get_or xs m d) ≡ true) same found.1 in
          absurd cc

    pub hint-beyond : (at : ℕ) → hint ≡ Some at → length xs ≤ at → None ≡ position p xs
    hint-beyond at is beyond = by_case (position p xs) refl where
      by_case : (o : Option ℕ) → position p xs ≡ o → None ≡ position p xs
      by_case None e = sym e
      by_case (Some j) e =
          let bad : Some at ≡ Some j = sym is ∙ right j (head-past n j none e) e in
          let same : j ≡ at = cc in
          absurd (omega (arith, same, beyond, position-below p xs j e))
