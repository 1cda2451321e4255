-- The first item that passes a test, by its place.
use Rattle.std.proofs.Common.{◌≡◌, ℕ, ◌<◌, ◌||◌, Bool, true, false, cond, List, [], ◌∷◌, Some, None, is_some, length, get_or, position}
use Rattle.std.proofs.Common.{refl, ap, ◌∙◌, arith}
use Rattle.std.proofs.lemmas.Grind.{common_steps}
use Rattle.std.specs.List.{find, position_or_len, slice_get, list_any}
use Rattle.std.proofs.lemmas.List.Folds.{find_at}
use Rattle.std.proofs.lemmas.List.Quantifiers.{position-Some}
use Rattle.std.proofs.lemmas.Option.{slice_get-get_or}
use Rattle.kin_store.proofs.Places.{list_any-position}

pub find-none : {X : Type 0} (p : X → Bool) (xs : List X) → list_any p xs ≡ false → find p xs ≡ None
find-none p [] e = refl
find-none p (x ∷ xs) e = by_test (p x) (find-none p xs) e where
  by_test : (b : Bool) → (list_any p xs ≡ false → find p xs ≡ None) → (b || list_any p xs) ≡ false → cond b (Some x) (find p xs) ≡ None
  by_test true rest h = absurd cc
  by_test false rest h = rest h

pub find-placed : {X : Type 0} (p : X → Bool) (xs : List X) (i : ℕ) (d : X) → position p xs ≡ Some i → find p xs ≡ Some (get_or xs i d)
find-placed p xs i d e =
    let at : position_or_len p xs ≡ i = grind (arith, common_steps) in
    let within : i < length xs = (position-Some p xs i d e).0 in
    find_at p xs ∙ (ap (λ (n : ℕ). slice_get xs n) at ∙ slice_get-get_or xs i d within)

pub find-unplaced : {X : Type 0} (p : X → Bool) (xs : List X) → position p xs ≡ None → find p xs ≡ None
find-unplaced p xs e = find-none p xs (list_any-position p xs ∙ ap is_some e)
