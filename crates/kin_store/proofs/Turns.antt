-- Halves that are turned: where they stand.
use Rattle.std.proofs.Common.{◌≡◌, ℕ, zero, suc, ◌+◌, ◌||◌, Bool, true, false, cond, if◌then◌else◌, List, [], ◌∷◌, ◌++◌, Option}
use Rattle.std.proofs.Common.{Some, None, get_or, set, position, refl, sym, ap, ◌∙◌, arith}
use mathlib.Core.Bool.{beq}
use Rattle.std.specs.List.{position_from, list_any}
use Rattle.std.proofs.lemmas.Iterator.Adapters.{position_from-zero}
use Rattle.std.proofs.lemmas.List.{set-get_or}
use Rattle.kin_ids.specs.declared.ids.User.{User}
use Rattle.kin_ids.specs.declared.stamps.Place.{Place}
use Rattle.kin_ids.specs.declared.ops.Half.{Half}
use Rattle.kin_ids.specs.Users.{same_user}
use Rattle.kin_ids.specs.Parts.{with_half, without_half}
use Rattle.kin_store.specs.Turns.{turned}
use Rattle.kin_store.proofs.Places.{from_above}

-- whether the half was ever added
abbrev pub added : User → List Half → Bool
added v xs = list_any (λ (x : Half). same_user v x.other) xs

abbrev pub with_present : Bool → Half → Half
with_present b x = record x { present = b }

pub without_half-turned : (v : User) (xs : List Half) → without_half v xs ≡ turned v false xs
without_half-turned v [] = refl
without_half-turned v (x ∷ xs) = ap (λ (ys : List Half). if same_user v x.other then record x { present = false } ∷ xs else x ∷ ys)
    (without_half-turned v xs)

half_cond : (b l : Bool) (x y : Half) (xs ys ts : List Half) → ys ≡ (if l then ts else xs ++ y ∷ [])
    → (if b then with_present true x ∷ xs else x ∷ ys) ≡ (if b || l then (if b then with_present true x ∷ xs else x ∷ ts) else x ∷ xs
    ++ y ∷ [])
half_cond true l x y xs ys ts e = refl
half_cond false true x y xs ys ts e = ap (λ (zs : List Half). x ∷ zs) e
half_cond false false x y xs ys ts e = ap (λ (zs : List Half). x ∷ zs) e

-- a half that was added is turned to present, and another comes to the end
pub with_half-turned : (v : User) (at : Place) (xs : List Half)
    → with_half v at xs ≡ (if added v xs then turned v true xs else xs ++ record { other = v; present = true; added = at } ∷ [])
with_half-turned v at [] = refl
with_half-turned v at (x ∷ xs) = half_cond (same_user v x.other) (added v xs) x (record { other = v; present = true; added = at }) xs _ _
    (with_half-turned v at xs)

none_cond : (b : Bool) (i : ℕ) (a : Option ℕ) (c : Bool) (x : Half) (xs ts : List Half) → (a ≡ None → ts ≡ xs) → cond b (Some i) a ≡ None
    → (if b then with_present c x ∷ xs else x ∷ ts) ≡ x ∷ xs
none_cond true i a c x xs ts h e = cc
none_cond false i a c x xs ts h e = ap (λ (zs : List Half). x ∷ zs) (h e)

turned_from-none : (v : User) (b : Bool) (k : ℕ) (xs : List Half) → position_from (λ (x : Half). same_user v x.other) k xs ≡ None
    → turned v b xs ≡ xs
turned_from-none v b k [] e = refl
turned_from-none v b k (x ∷ xs) e = none_cond (same_user v x.other) k _ b x xs _ (turned_from-none v b (k + 1) xs) e

turned_from-some : (v : User) (b : Bool) (k n : ℕ) (xs : List Half) (d : Half) → position_from (λ (x : Half). same_user v x.other) k xs
    ≡ Some (k + n) → turned v b xs ≡ set xs n (with_present b (get_or xs n d))
turned_from-some v b k n [] d e = cc
turned_from-some v b k zero (x ∷ xs) d e = here (same_user v x.other) refl e where
  here : (t : Bool) → same_user v x.other ≡ t → cond t (Some k) (position_from (λ (y : Half). same_user v y.other) (k + 1) xs)
      ≡ Some (k + zero)
      → (if t then with_present b x ∷ xs else x ∷ turned v b xs) ≡ with_present b x ∷ xs
  here true q h = refl
  here false q h = absurd (omega (arith, from_above (λ (y : Half). same_user v y.other) (k + 1) xs (k + zero) h))
turned_from-some v b k (suc n) (x ∷ xs) d e = there (same_user v x.other) refl e (turned_from-some v b (k + 1) n xs d) where
  there : (t : Bool) → same_user v x.other ≡ t → cond t (Some k) (position_from (λ (y : Half). same_user v y.other) (k + 1) xs)
      ≡ Some (k + suc n)
      → (position_from (λ (y : Half). same_user v y.other) (k + 1) xs ≡ Some (k + 1 + n)
      → turned v b xs ≡ set xs n (with_present b (get_or xs n d)))
      → (if t then with_present b x ∷ xs else x ∷ turned v b xs) ≡ x ∷ set xs n (with_present b (get_or xs n d))
  there true q h more = let same : k ≡ k + suc n = cc in absurd (omega (arith, same))
  there false q h more = let m : k + suc n ≡ k + 1 + n = omega arith in ap (λ (zs : List Half). x ∷ zs) (more (h ∙ ap Some m))

-- a half that was never added isn't turned
pub turned-none : (v : User) (b : Bool) (xs : List Half) → position (λ (x : Half). same_user v x.other) xs ≡ None → turned v b xs ≡ xs
turned-none v b xs e = turned_from-none v b 0 xs (sym (position_from-zero (λ (x : Half). same_user v x.other) xs) ∙ e)

-- the first half of this end is the one that is turned
pub turned-some : (v : User) (b : Bool) (xs : List Half) (i : ℕ) (d : Half) → position (λ (x : Half). same_user v x.other) xs ≡ Some i
    → turned v b xs ≡ set xs i (with_present b (get_or xs i d))
turned-some v b xs i d e =
    let n : i ≡ 0 + i = omega arith in
    turned_from-some v b 0 i xs d (sym (position_from-zero (λ (x : Half). same_user v x.other) xs) ∙ (e ∙ ap Some n))

-- it stays where it is so already
pub turned-same : (v : User) (b : Bool) (xs : List Half) (i : ℕ) (d : Half) → position (λ (x : Half). same_user v x.other) xs ≡ Some i
    → (get_or xs i d).present ≡ b → turned v b xs ≡ xs
turned-same v b xs i d e same =
    let y = get_or xs i d in
    turned-some v b xs i d e ∙ (ap (λ (c : Bool). set xs i (with_present c y)) (sym same) ∙ set-get_or xs i d)

beq-true : (a b : Bool) → beq a b ≡ true → a ≡ b
beq-true true true e = refl
beq-true true false e = cc
beq-true false true e = cc
beq-true false false e = refl

-- what a search finds at i stays so, or is written over
module _ (v : User) (b : Bool) (xs ys : List Half) (i : ℕ) (d : Half) (read : ys ≡ xs)
    (at : Some i ≡ position (λ (x : Half). same_user v x.other) xs) where
  pub turn-same : beq (get_or ys i d).present b ≡ true → xs ≡ turned v b xs
  turn-same e = sym (turned-same v b xs i d (sym at) (beq-true (get_or xs i d).present b (rw read at e)))

  pub turn-writes : set xs i (with_present b (get_or ys i d)) ≡ turned v b xs
  turn-writes = rw read (sym (turned-some v b xs i d (sym at)))
