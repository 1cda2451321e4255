-- Values by place, read as the values of users.
use Rattle.std.proofs.Common.{◌≡◌, ◌<◌, ◌∙◌, ◌||◌, ℕ, zero, suc, Bool, true, false, List, [], ◌∷◌, ◌++◌, Option, Some, None, length, get_or, set, map, replicate, if◌then◌else◌, eqb, arith, refl, sym, ap, subst}
use Rattle.std.specs.declared.cmp.Ordering.TheVariants.{Less}
use Rattle.std.specs.List.Sorted.{IsStrictlySortedBy}
use Rattle.std.proofs.lemmas.Bool.{both_ways}
use Rattle.std.proofs.lemmas.Bool.Decides.{nat_tests}
use Rattle.std.proofs.lemmas.Map.Views.{All-after_first}
use Rattle.std.proofs.lemmas.Map.Keys.{sorted_tail}
use Rattle.std.proofs.lemmas.List.{get_or-set_same, get_or-set_other, get_or-map, ext_get_or, length-map}
use Rattle.std.proofs.lemmas.List.Elements.{All-get_or}
use Rattle.std.proofs.lemmas.List.Folds.{list_any-append}
use Rattle.std.proofs.Math.Bool.{or-false}
use Rattle.kin_ids.specs.declared.ids.User.{User}
use Rattle.kin_ids.specs.Users.{same_user, has_user, user_cmp}
use Rattle.kin_ids.proofs.Same.{same_user-true, same_user-refl}
use Rattle.kin_rules.specs.Kept.{lowered}
use Rattle.kin_rules.specs.Places.{place}
use Rattle.kin_rules.specs.Going.{has_place}
use Rattle.kin_rules.proofs.Places.{place-lt, place-absent, get-place}

-- a user's place is nobody else's
pub place-apart : (us : List User) (u x : User) → has_user us u ≡ true → same_user u x ≡ false → place us x ≡ place us u → ⊥
place-apart us u x there apart e = split (has_user us x) refl
  where
    split : (b : Bool) → has_user us x ≡ b → ⊥
    split false h = let l = place-lt us u there in let p = place-absent us x h in omega (arith, l, p, e)
    split true h =
        let a : get_or us (place us u) u ≡ x = subst (λ (p : ℕ). get_or us p u ≡ x) e (get-place us x u h) in
        let same : u ≡ x = sym (get-place us u u there) ∙ a in
        both_ways (same_user u x) apart (subst (λ (y : User). same_user u y ≡ true) same (same_user-refl u))

-- nobody's value
pub get_or-none : (n i : ℕ) → get_or (replicate {A = Option ℕ} n None) i None ≡ None
get_or-none zero i = refl
get_or-none (suc n) zero = refl
get_or-none (suc n) (suc i) = get_or-none n i

-- what is written at the place of a user is its value, and the others have theirs
pub value-set : (us : List User) (vs : List (Option ℕ)) (u : User) (m : ℕ) → length vs ≡ length us → has_user us u ≡ true → (x : User)
    → get_or (set vs (place us u) (Some m)) (place us x) None ≡ lowered (λ y. get_or vs (place us y) None) u m x
value-set us vs u m fits there x = split (same_user u x) refl
  where
    split : (b : Bool) → same_user u x ≡ b → get_or (set vs (place us u) (Some m)) (place us x) None ≡ (if b then Some m else get_or vs (place us x) None)
    split true e =
        let l = place-lt us u there in
        subst (λ (y : User). get_or (set vs (place us u) (Some m)) (place us y) None ≡ Some m) (same_user-true u x e) (get_or-set_same vs (place us u) (Some m) None (omega (arith, l, fits)))
    split false e = get_or-set_other vs (place us u) (place us x) (Some m) None (place-apart us u x there e)

less-other : (x u : User) → user_cmp x u ≡ Less → same_user u x ≡ false
less-other x u h = grind (arith, nat_tests)

-- users that ascend stand at their places
pub place-at : (us : List User) (p : ℕ) (d : User) → IsStrictlySortedBy user_cmp us → p < length us → place us (get_or us p d) ≡ p
place-at [] p d s lt = absurd (omega (arith, lt))
place-at (y ∷ us) zero d s lt = rw (same_user-refl y) refl
place-at (y ∷ us) (suc p) d s lt =
    let in-rest : p < length us = omega (arith, lt) in
    let less = All-get_or (λ (z : User). user_cmp y z ≡ Less) us p d in-rest (All-after_first user_cmp y us s) in
    rw (less-other y (get_or us p d) less) (ap suc (place-at us p d (sorted_tail user_cmp y us s) in-rest))

-- values by place are the users' values, in order
pub values-mapped : (us : List User) (vs : List (Option ℕ)) (f : User → Option ℕ) → IsStrictlySortedBy user_cmp us → length vs ≡ length us
    → ((x : User) → get_or vs (place us x) None ≡ f x) → vs ≡ map f us
values-mapped us vs f s fits is = ext_get_or None vs (map f us) (fits ∙ sym (length-map us f)) each
  where
    each : (i : ℕ) → i < length vs → get_or vs i None ≡ get_or (map f us) i None
    each i lt =
        let l : i < length us = omega (arith, lt, fits) in
        let d : User = record { 0 = 0 } in
        subst (λ (p : ℕ). get_or vs p None ≡ f (get_or us i d)) (place-at us i d s l) (is (get_or us i d)) ∙ sym (get_or-map f us i d None l)

-- places in a list
pub has_place-append : (ps : List ℕ) (q p : ℕ) → has_place (ps ++ q ∷ []) p ≡ (has_place ps p || eqb p q)
has_place-append ps q p = list_any-append (eqb p) ps (q ∷ []) ∙ ap (λ (b : Bool). has_place ps p || b) (or-false (eqb p q))
