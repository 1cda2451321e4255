-- Lists with the same items under each key are permutations of each other.
use Rattle.std.proofs.Common.{◌≡◌, ◌∙◌, Bool, true, false, cond, List, [], ◌∷◌, ◌++◌, map, filter, Option, Some, None, refl, sym, ap, subst}
use Rattle.std.specs.List.{list_any, find}
use Rattle.std.specs.List.Sorted.{IsPermutation}
use Rattle.std.proofs.lemmas.Bool.{or_parts}
use Rattle.std.proofs.lemmas.List.Sorted.{IsPermutation-refl, IsPermutation-sym, IsPermutation-trans, IsPermutation-cons}
use Rattle.std.proofs.lemmas.List.Sorted.{IsPermutation-middle}
use Rattle.kin_ids.specs.Follows.{IsOnce}
use Rattle.kin_changes.proofs.Wholes.{any-map}

-- an item, or none
abbrev pub one_of : {X : Type 0} → Option X → List X
one_of None = []
one_of (Some x) = x ∷ []

pub filter-none : {X : Type 0} (p : X → Bool) (xs : List X) → list_any p xs ≡ false → filter p xs ≡ []
filter-none p [] h = refl
filter-none p (x ∷ xs) h = let parts = or_parts (p x) (list_any p xs) h in rw parts.0 (filter-none p xs parts.1)

pub filter-append : {X : Type 0} (p : X → Bool) (xs ys : List X) → filter p (xs ++ ys) ≡ filter p xs ++ filter p ys
filter-append p [] ys = refl
filter-append {X} p (x ∷ xs) ys = here (p x) (filter-append p xs ys)
  where
    here : (b : Bool) → filter p (xs ++ ys) ≡ filter p xs ++ filter p ys → cond b (x ∷ filter p (xs ++ ys)) (filter p (xs ++ ys))
        ≡ cond b (x ∷ filter p xs) (filter p xs) ++ filter p ys
    here true e = ap (λ (zs : List X). x ∷ zs) e
    here false e = e

module _ {X K : Type 0} (same : K → K → Bool) (tells : (a b : K) → same a b ≡ true → a ≡ b) (self : (a : K) → same a a ≡ true) (key : X
    → K) where
  abbrev of : K → X → Bool
  of k x = same k (key x)

  -- a list without the first item of a key
  abbrev without : K → List X → List X
  without k [] = []
  without k (y ∷ ys) = cond (same k (key y)) ys (y ∷ without k ys)

  front : (k : K) (ys rest : List X) (x : X) → filter (of k) ys ≡ x ∷ rest → IsPermutation (x ∷ without k ys) ys
  front k [] rest x e = absurd cc
  front k (y ∷ ys) rest x e = here (same k (key y)) e (front k ys rest x)
    where
      here : (b : Bool) → cond b (y ∷ filter (of k) ys) (filter (of k) ys) ≡ x ∷ rest → (filter (of k) ys ≡ x ∷ rest
          → IsPermutation (x ∷ without k ys) ys) → IsPermutation (x ∷ cond b ys (y ∷ without k ys)) (y ∷ ys)
      here true f more = let is : y ≡ x = cc in subst (λ (z : X). IsPermutation (z ∷ ys) (y ∷ ys)) is (IsPermutation-refl (y ∷ ys))
      here false f more =
          IsPermutation-trans (x ∷ y ∷ without k ys) (y ∷ x ∷ without k ys) (y ∷ ys)
          (IsPermutation-sym (y ∷ x ∷ without k ys) (x ∷ y ∷ without k ys) (IsPermutation-middle (y ∷ []) x (without k ys)))
          (IsPermutation-cons y (x ∷ without k ys) ys (more f))

  rest-of : (k : K) (ys rest : List X) (x : X) → filter (of k) ys ≡ x ∷ rest → filter (of k) (without k ys) ≡ rest
  rest-of k [] rest x e = absurd cc
  rest-of k (y ∷ ys) rest x e = here (same k (key y)) refl e (rest-of k ys rest x)
    where
      here : (b : Bool) → same k (key y) ≡ b → cond b (y ∷ filter (of k) ys) (filter (of k) ys) ≡ x ∷ rest
          → (filter (of k) ys ≡ x ∷ rest → filter (of k) (without k ys) ≡ rest)
          → filter (of k) (cond b ys (y ∷ without k ys)) ≡ rest
      here true t f more = cc
      here false t f more = rw t (more f)

  others-of : (k q : K) (ys : List X) → same q k ≡ false → filter (of q) (without k ys) ≡ filter (of q) ys
  others-of k q [] apart = refl
  others-of k q (y ∷ ys) apart = here (same k (key y)) refl (others-of k q ys apart)
    where
      here : (b : Bool) → same k (key y) ≡ b → filter (of q) (without k ys) ≡ filter (of q) ys
          → filter (of q) (cond b ys (y ∷ without k ys)) ≡ cond (same q (key y)) (y ∷ filter (of q) ys) (filter (of q) ys)
      here true t more = let off : same q (key y) ≡ false = subst (λ (z : K). same q z ≡ false) (tells k (key y) t) apart in rw off refl
      here false t more = ap (λ (zs : List X). cond (same q (key y)) (y ∷ zs) zs) more

  pub filters-permuted : (xs ys : List X) → ((k : K) → filter (of k) xs ≡ filter (of k) ys) → IsPermutation xs ys
  filters-permuted [] [] alike = IsPermutation-refl []
  filters-permuted [] (y ∷ ys) alike = let e : [] ≡ y ∷ filter (of (key y)) ys = subst (λ (b : Bool). []
      ≡ cond b (y ∷ filter (of (key y)) ys) (filter (of (key y)) ys)) (self (key y)) (alike (key y)) in absurd cc
  filters-permuted (x ∷ xs) ys alike =
      IsPermutation-trans (x ∷ xs) (x ∷ without k ys) ys (IsPermutation-cons x xs (without k ys) (filters-permuted xs (without k ys)
      (λ q. each q (same q k) refl))) (front k ys (filter (of k) xs) x first)
    where
      k : K
      k = key x

      first : filter (of k) ys ≡ x ∷ filter (of k) xs
      first = sym (alike k) ∙ ap (λ (b : Bool). cond b (x ∷ filter (of k) xs) (filter (of k) xs)) (self k)

      each : (q : K) (b : Bool) → same q k ≡ b → filter (of q) xs ≡ filter (of q) (without k ys)
      each q true t = subst (λ (z : K). filter (of z) xs ≡ filter (of z) (without k ys)) (sym (tells q k t)) (sym (rest-of k ys (filter
          (of k) xs) x first))
      each q false t = sym (ap (λ (b : Bool). cond b (x ∷ filter (of q) xs) (filter (of q) xs)) t) ∙ (alike q ∙ sym (others-of k q ys t))

  -- where each key stands once there is one item of a key at most
  pub once-filter : (xs : List X) → IsOnce same (map key xs) → (k : K) → filter (of k) xs ≡ one_of (find (of k) xs)
  once-filter [] once k = refl
  once-filter (x ∷ xs) once k = here (same k (key x)) refl (once-filter xs once.1 k)
    where
      here : (b : Bool) → same k (key x) ≡ b → filter (of k) xs ≡ one_of (find (of k) xs)
          → cond b (x ∷ filter (of k) xs) (filter (of k) xs) ≡ one_of (cond b (Some x) (find (of k) xs))
      here true t more =
          let out : list_any (of (key x)) xs ≡ false = sym (any-map (same (key x)) key xs) ∙ once.0 in
          ap (λ (ys : List X). x ∷ ys) (subst (λ (z : K). filter (of z) xs ≡ []) (sym (tells k (key x) t)) (filter-none (of
          (key x)) xs out))
      here false t more = more
