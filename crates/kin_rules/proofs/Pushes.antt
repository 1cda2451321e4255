-- Lists that grow by an element for each of a list.
use Rattle.std.proofs.Common.{◌≡◌, ◌<◌, ◌+◌, ◌∙◌, ℕ, List, [], ◌∷◌, ◌++◌, length, get_or, map, take, sym, ap, subst}
use Rattle.std.proofs.lemmas.List.{map_more}

-- one more element of a list that is a map of the first ones, where what is walked is the list
pub mapped-push : {X Y : Type 0} (f : X → Y) (walked xs : List X) (i : ℕ) (x d : X) (y : Y) (was is : List Y) → walked ≡ xs → i < length walked → x ≡ get_or walked i d → y ≡ f x → was ≡ map f (take i xs) → is ≡ was ++ y ∷ []
    → is ≡ map f (take (i + 1) xs)
mapped-push {X} {Y} f walked xs i x d y was is same lt at value old push =
    push ∙ ap (λ (ys : List Y). ys ++ y ∷ []) old ∙ ap (λ (z : Y). map f (take i xs) ++ z ∷ []) (value ∙ ap f (at ∙ ap (λ (zs : List X). get_or zs i d) same))
    ∙ sym (map_more f xs i d (subst (λ (zs : List X). i < length zs) same lt))
