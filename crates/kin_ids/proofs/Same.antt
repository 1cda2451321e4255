-- Users, tags and places, compared: what the tests tell.
use Rattle.std.proofs.Common.{◌≡◌, ℕ, Bool, true, false, eqb, ⊎_elim, List, [], ◌∷◌, refl, sym, ◌∙◌, ap, subst, arith}
use Rattle.std.specs.List.{list_any, filter}
use Rattle.std.specs.Ordering.{nat_cmp, is_eq}
use Rattle.std.proofs.lemmas.Bool.{cases_Bool, or_parts, eqb-true, eq-eqb, false_from_ne_true, both_ways}
use Rattle.std.proofs.lemmas.Bool.Decides.{nat_tests}
use Rattle.std.proofs.lemmas.Slice.Eq.{bytes_eq-Decides}
use Rattle.std.proofs.lemmas.Map.Text.{is_eq-slice_cmp}
use Rattle.kin_ids.specs.Types.{User}
use Rattle.kin_ids.specs.Users.{same_user, same_tag}

abbrev user_of_number : ℕ → User
user_of_number n = record { 0 = n }

same_number : (a b : ℕ) → is_eq (nat_cmp a b) ≡ eqb a b
same_number a b = grind (arith, nat_tests)

-- a test that tells equality is the same both ways round
sym_by : {X : Type 0} (f : X → X → Bool) → ((a b : X) → f a b ≡ true → a ≡ b) → ((a : X) → f a a ≡ true) → (a b : X) → f a b ≡ f b a
sym_by f tells same a b =
    ⊎_elim (λ (t : f a b ≡ true). t ∙ sym (subst (λ x. f b x ≡ true) (sym (tells a b t)) (same b)))
    (λ (n : f a b ≡ false). ⊎_elim (λ (t : f b a ≡ true). absurd (both_ways _ n (subst (λ x. f a x ≡ true) (sym (tells b a t)) (same a)))) (λ (m : f b a ≡ false). n ∙ sym m) (cases_Bool (f b a)))
    (cases_Bool (f a b))

pub same_user-true : (u v : User) → same_user u v ≡ true → u ≡ v
same_user-true u v h = ap user_of_number (eqb-true u.0 v.0 (sym (same_number u.0 v.0) ∙ h))

pub same_user-refl : (u : User) → same_user u u ≡ true
same_user-refl u = same_number u.0 u.0 ∙ eq-eqb u.0 u.0 refl

pub same_user-sym : (u v : User) → same_user u v ≡ same_user v u
same_user-sym u v = sym_by same_user same_user-true same_user-refl u v

pub same_tag-true : (s t : List ℕ) → same_tag s t ≡ true → s ≡ t
same_tag-true s t h = (bytes_eq-Decides s t).0 (sym (is_eq-slice_cmp s t) ∙ h)

pub same_tag-refl : (s : List ℕ) → same_tag s s ≡ true
same_tag-refl s = is_eq-slice_cmp s s ∙ (bytes_eq-Decides s s).1 refl

pub same_tag-sym : (s t : List ℕ) → same_tag s t ≡ same_tag t s
same_tag-sym s t = sym_by same_tag same_tag-true same_tag-refl s t

-- tests that agree on each element
pub list_any-alike : {X : Type 0} (f g : X → Bool) (xs : List X) → ((x : X) → f x ≡ g x) → list_any f xs ≡ list_any g xs
list_any-alike f g [] h = refl
list_any-alike f g (x ∷ xs) h = rw (h x, list_any-alike f g xs h) refl

pub filter-alike : {X : Type 0} (f g : X → Bool) (xs : List X) → ((x : X) → f x ≡ g x) → filter f xs ≡ filter g xs
filter-alike f g [] h = refl
filter-alike f g (x ∷ xs) h = rw (h x, filter-alike f g xs h) refl

-- a test that implies another
pub list_any-weaker : {X : Type 0} (f g : X → Bool) (xs : List X) → ((x : X) → f x ≡ true → g x ≡ true) → list_any g xs ≡ false → list_any f xs ≡ false
list_any-weaker f g [] h e = refl
list_any-weaker f g (x ∷ xs) h e =
    let parts = or_parts _ _ e in
    let here : f x ≡ false = false_from_ne_true (f x) (λ t. both_ways _ parts.0 (h x t)) in
    rw here (list_any-weaker f g xs h parts.1)
