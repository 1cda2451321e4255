-- The first item of a list that passes a test.
use Rattle.std.proofs.Common.{◌≡◌, ◌||◌, Bool, true, false, cond, List, [], ◌∷◌, Some, is_some, refl, ap, sym, ◌∙◌}
use Rattle.std.specs.List.{find, list_any}

pub find-passes : {X : Type 0} (p : X → Bool) (xs : List X) (x : X) → find p xs ≡ Some x → p x ≡ true
find-passes p [] x e = absurd cc
find-passes {X} p (y ∷ ys) x e = by_test (p y) refl e (find-passes p ys x) where
  by_test : (b : Bool) → p y ≡ b → cond b (Some y) (find p ys) ≡ Some x → (find p ys ≡ Some x → p x ≡ true) → p x ≡ true
  by_test true t h rest = let same : y ≡ x = cc in ap p (sym same) ∙ t
  by_test false t h rest = rest h

pub any-find : {X : Type 0} (p : X → Bool) (xs : List X) → list_any p xs ≡ is_some (find p xs)
any-find p [] = refl
any-find {X} p (x ∷ xs) = by_test (p x) (any-find p xs) where
  by_test : (b : Bool) → list_any p xs ≡ is_some (find p xs) → (b || list_any p xs) ≡ is_some (cond b (Some x) (find p xs))
  by_test true rest = refl
  by_test false rest = rest
