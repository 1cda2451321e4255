-- Where the first item that passes a test stands, as a list grows at its end or has an item written over.
use Rattle.std.proofs.Common.{◌≡◌, ℕ, suc, ◌+◌, ◌<◌, ◌≤◌, ◌||◌, Bool, true, false, cond, List, [], ◌∷◌, ◌++◌, Option, Some, None, is_some}
use Rattle.std.proofs.Common.{length, get_or, set, position, refl, sym, ap, ◌∙◌, subst, arith, add-zero}
use Rattle.std.specs.List.{position_from, list_any}
use Rattle.std.proofs.lemmas.Iterator.Adapters.{position_from-zero}
use Rattle.std.proofs.lemmas.List.Quantifiers.{position-Some}
use Rattle.std.proofs.lemmas.List.Folds.{position_or_len-set}
use Rattle.std.proofs.lemmas.List.{length-set}
use Rattle.std.proofs.lemmas.Cmp.{eq_by_cmp_equiv}
use Rattle.std.specs.Cmp.{IsTotalOrder}
use Rattle.std.specs.BTreeMap.{is_at}
use Rattle.std.specs.declared.cmp.Ordering.{Ordering}
use Rattle.kin_store.specs.Lists.{place_of}

abbrev pub or_else : Option ℕ → Option ℕ → Option ℕ
or_else None o = o
or_else (Some i) o = Some i

cond_push : (b : Bool) (i : ℕ) (a c d : Option ℕ) → a ≡ or_else c d → cond b (Some i) a ≡ or_else (cond b (Some i) c) d
cond_push true i a c d e = refl
cond_push false i a c d e = e

from_append : {X : Type 0} (p : X → Bool) (i : ℕ) (xs ys : List X) → position_from p i (xs ++ ys) ≡ or_else (position_from p i xs)
    (position_from p (i + length xs) ys)
from_append p i [] ys = rw add-zero refl
from_append p i (x ∷ xs) ys =
    let n : i + 1 + length xs ≡ i + suc (length xs) = omega arith in
    cond_push (p x) i _ _ _ (subst (λ (m : ℕ). position_from p (i + 1) (xs ++ ys) ≡ or_else (position_from p (i + 1) xs)
    (position_from p m ys)) n (from_append p (i + 1) xs ys))

pub position-append : {X : Type 0} (p : X → Bool) (xs ys : List X) → position p (xs ++ ys) ≡ or_else (position p xs)
    (position_from p (length xs) ys)
position-append p xs ys =
    position_from-zero p (xs ++ ys) ∙ subst (λ (m : ℕ). position_from p 0 (xs ++ ys) ≡ or_else (position_from p 0 xs)
    (position_from p m ys)) (omega arith) (from_append p 0 xs ys)
    ∙ ap (λ o. or_else o (position_from p (length xs) ys)) (sym (position_from-zero p xs))

-- a search that begins at index k finds no earlier one
above_cond : (b : Bool) (k i : ℕ) (a : Option ℕ) → cond b (Some k) a ≡ Some i → (a ≡ Some i → k + 1 ≤ i) → k ≤ i
above_cond true k i a e h = let same : k ≡ i = cc in omega (arith, same)
above_cond false k i a e h = omega (arith, h e)

pub from_above : {X : Type 0} (p : X → Bool) (k : ℕ) (xs : List X) (i : ℕ) → position_from p k xs ≡ Some i → k ≤ i
from_above p k [] i e = cc
from_above p k (x ∷ xs) i e = above_cond (p x) k i (position_from p (k + 1) xs) e (from_above p (k + 1) xs i)

-- one more item at the end
pub position-push : {X : Type 0} (p : X → Bool) (xs : List X) (y : X) → position p (xs ++ y ∷ []) ≡ or_else (position p xs)
    (cond (p y) (Some (length xs)) None)
position-push p xs y = position-append p xs (y ∷ [])

any_cond : (b : Bool) (i : ℕ) (a : Option ℕ) (l : Bool) → l ≡ is_some a → (b || l) ≡ is_some (cond b (Some i) a)
any_cond true i a l e = refl
any_cond false i a l e = e

any_from : {X : Type 0} (p : X → Bool) (i : ℕ) (xs : List X) → list_any p xs ≡ is_some (position_from p i xs)
any_from p i [] = refl
any_from p i (x ∷ xs) = any_cond (p x) i _ _ (any_from p (i + 1) xs)

-- one that passes has a place
pub list_any-position : {X : Type 0} (p : X → Bool) (xs : List X) → list_any p xs ≡ is_some (position p xs)
list_any-position p xs = any_from p 0 xs ∙ ap is_some (sym (position_from-zero p xs))

pub position-below : {X : Type 0} (p : X → Bool) (xs : List X) (i : ℕ) → position p xs ≡ Some i → i < length xs
position-below p [] i e = cc
position-below p (x ∷ xs) i e = (position-Some p (x ∷ xs) i x e).0

pub position-set : {X : Type 0} (p : X → Bool) (xs : List X) (i : ℕ) (y d : X) → p y ≡ p (get_or xs i d)
    → position p (set xs i y) ≡ position p xs
position-set {X} p xs i y d e = rw (position_or_len-set p xs i y d e, length-set {A = X} xs i y) refl

module _ {K T : Type 0} {cmp : K → K → Ordering} (o : IsTotalOrder cmp) (key : T → K) where
  -- equal keys stand at one place
  pub place-same : (j k : K) → is_at (cmp j) k ≡ true → (xs : List T) → place_of cmp key j xs ≡ place_of cmp key k xs
  place-same j k e xs = ap (λ (p : T → Bool). position p xs) (λ i x. (eq_by_cmp_equiv o).congr j k (key x) e i)

  pub place-push : (xs : List T) (y : T) → place_of cmp key (key y) xs ≡ None → (k : K) → place_of cmp key k (xs ++ y ∷ [])
      ≡ cond (is_at (cmp (key y)) k) (Some (length xs)) (place_of cmp key k xs)
  place-push xs y new k = position-push (λ x. is_at (cmp k) (key x)) xs y ∙ by_test (is_at (cmp (key y)) k) refl where
    turned : is_at (cmp k) (key y) ≡ is_at (cmp (key y)) k
    turned = (eq_by_cmp_equiv o).symm k (key y)

    or_none : (a : Option ℕ) → or_else a None ≡ a
    or_none None = refl
    or_none (Some i) = refl

    by_test : (b : Bool) → is_at (cmp (key y)) k ≡ b
        → or_else (place_of cmp key k xs) (cond (is_at (cmp k) (key y)) (Some (length xs)) None) ≡ cond b (Some (length xs))
        (place_of cmp key k xs)
    by_test true e = rw (turned, e, ← place-same (key y) k e xs, new) refl
    by_test false e = rw (turned, e) (or_none (place_of cmp key k xs))
