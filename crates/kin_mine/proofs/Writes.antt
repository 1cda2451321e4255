-- What is written through a slice of a vector.
use Rattle.std.proofs.Common.{◌≡◌, ◌∙◌, ℕ, List, ◌++◌, take, drop, length, sym, ap, subst}
use Rattle.std.proofs.lemmas.List.{take_at}

-- a fact of what the slice had and was given is one of what the vector had and has
pub written : {X : Type 0} (P : List X → List X → Type 0) (n : ℕ) (items slice given : List X) → slice ≡ items → length slice ≡ n → length given ≡ length items → P slice given
    → P items (take n (given ++ drop (length given) items))
written P n items slice given e long fits p =
    subst (P items) (sym (take_at given (drop (length given) items) n (fits ∙ (ap length (sym e) ∙ long)))) (subst (λ (xs : List _). P xs given) e p)

-- the same of two vectors
pub both-written : {X Y : Type 0} (P : List X → List X → List Y → List Y → Type 0) (n m : ℕ) (xs slice given : List X) (ys slice2 given2 : List Y) → slice ≡ xs → length slice ≡ n → length given ≡ length slice
    → slice2 ≡ ys → length slice2 ≡ m → length given2 ≡ length slice2 → P slice given slice2 given2
    → P xs (take n (given ++ drop (length given) xs)) ys (take m (given2 ++ drop (length given2) ys))
both-written P n m xs slice given ys slice2 given2 e long fits e2 long2 fits2 p =
    written (λ old new. P old new ys (take m (given2 ++ drop (length given2) ys))) n xs slice given e long (fits ∙ ap length e)
    (written (λ old new. P slice given old new) m ys slice2 given2 e2 long2 (fits2 ∙ ap length e2) p)
