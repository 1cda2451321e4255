-- What lists share up to a position.
use Rattle.std.proofs.Common.{◌≡◌, ℕ, suc, ◌<◌, Bool, true, false, cond, leb, List, [], ◌∷◌, refl, sym, ◌∙◌, ap, arith, get_or, length}
use Rattle.std.proofs.lemmas.Bool.{cond-true, both_ways}
use Rattle.kin_ids.specs.declared.stamps.Stamp.{Stamp}
use Rattle.kin_ids.specs.Lines.{same_stamp, upto}
use Rattle.kin_ids.proofs.Lines.{same_stamp-refl, same_from_test}
use Rattle.kin_hub.specs.Fronts.{common, common_with, common_of}

common-none : (xs : List Stamp) → common xs [] ≡ []
common-none [] = refl
common-none (x ∷ xs) = refl

common-same : (xs : List Stamp) → common xs xs ≡ xs
common-same [] = refl
common-same (x ∷ xs) = cond-true (same_stamp x x) _ _ (same_stamp-refl x) ∙ ap (λ (ys : List Stamp). x ∷ ys) (common-same xs)

upto-common : (m : ℕ) (xs ys : List Stamp) → upto m (common xs ys) ≡ common (upto m xs) (upto m ys)
upto-common m [] ys = refl
upto-common m (x ∷ xs) [] = sym (common-none (upto m (x ∷ xs)))
upto-common m (x ∷ xs) (y ∷ ys) = go (leb x.to m) refl (leb y.to m) refl (same_stamp x y) refl (upto-common m xs ys)
  where
    go : (a : Bool) → leb x.to m ≡ a → (b : Bool) → leb y.to m ≡ b → (c : Bool) → same_stamp x y ≡ c → upto m (common xs ys) ≡ common (upto m xs) (upto m ys) →
        upto m (cond c (x ∷ common xs ys) []) ≡ common (cond a (x ∷ upto m xs) []) (cond b (y ∷ upto m ys) [])
    go true ea true eb true ec ih = rw (ea, ec) (ap (λ (zs : List Stamp). x ∷ zs) ih)
    go true ea true eb false ec ih = rw ec refl
    go true ea false eb true ec ih = absurd (both_ways _ (ap (λ (s : Stamp). leb s.to m) (same_from_test x y ec) ∙ eb) ea)
    go true ea false eb false ec ih = refl
    go false ea b eb true ec ih = rw ea refl
    go false ea b eb false ec ih = refl

-- lists that are alike up to a position share that
shared_with : (m : ℕ) (zs xs : List Stamp) (rest : List (List Stamp)) → upto m xs ≡ zs → ((k : ℕ) → k < length rest → upto m (get_or rest k []) ≡ zs) → upto m (common_with xs rest) ≡ zs
shared_with m zs xs [] first each = first
shared_with m zs xs (ys ∷ rest) first each =
    let both : upto m (common xs ys) ≡ zs = upto-common m xs ys ∙ (ap (λ (us : List Stamp). common us (upto m ys)) first ∙ (ap (common zs) (each 0 (omega arith)) ∙ common-same zs)) in
    shared_with m zs (common xs ys) rest both (λ k lt. each (suc k) (omega arith))

pub shared : (m : ℕ) (zs : List Stamp) (lists : List (List Stamp)) → 0 < length lists → ((k : ℕ) → k < length lists → upto m (get_or lists k []) ≡ zs) → upto m (common_of lists) ≡ zs
shared m zs [] some each = absurd (omega arith)
shared m zs (xs ∷ rest) some each = shared_with m zs xs rest (each 0 (omega arith)) (λ k lt. each (suc k) (omega arith))
