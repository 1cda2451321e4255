-- A user at its place.
use Rattle.std.proofs.Common.{take, ◌≡◌, ◌<◌, ◌+◌, ◌∙◌, ◌||◌, ℕ, zero, suc, Bool, true, false, List, [], ◌∷◌, ◌++◌, length, get_or, map, cond, not, eqb, ltb, Some, None, arith, refl, sym, ap}
use Rattle.kin_ids.specs.declared.ids.User.{User}
use Rattle.kin_ids.specs.Users.{same_user, has_user, user_cmp}
use Rattle.kin_ids.proofs.Same.{same_user-true, same_user-refl}
use Rattle.std.proofs.lemmas.Bool.Decides.{nat_tests}
use Rattle.std.proofs.lemmas.List.{length-map, map_push, take_more}
use Rattle.std.proofs.lemmas.List.Folds.{list_any_at}
use Rattle.std.proofs.lemmas.Map.Keys.{sorted_tail}
use Rattle.std.proofs.lemmas.Map.Views.{All-after_first}
use Rattle.std.specs.List.Sorted.{IsStrictlySortedBy}
use Rattle.std.specs.declared.cmp.Ordering.TheVariants.{Less}
use Rattle.std.specs.List.{position_or_len, position, list_any}
use Rattle.kin_rules.specs.Places.{place, found, with_user}

pub place-lt : (us : List User) (x : User) → has_user us x ≡ true → place us x < length us
place-lt [] x h = cc
place-lt (u ∷ us) x h = here (place-lt us x) (same_user x u) h
  where
    here : (has_user us x ≡ true → place us x < length us) → (b : Bool) → (b || has_user us x) ≡ true → cond b 0 (suc (place us x)) < suc (length us)
    here old true h = omega arith
    here old false h = let k = old h in omega (arith, k)

pub has-get : (us : List User) (i : ℕ) (d : User) → i < length us → has_user us (get_or us i d) ≡ true
has-get us i d lt = list_any_at (same_user (get_or us i d)) us i d lt (same_user-refl (get_or us i d))

pub get-place : (us : List User) (x : User) (d : User) → has_user us x ≡ true → get_or us (place us x) d ≡ x
get-place [] x d h = cc
get-place (u ∷ us) x d h = here (get-place us x d) (same_user x u) refl h
  where
    here : (has_user us x ≡ true → get_or us (place us x) d ≡ x) → (b : Bool) → same_user x u ≡ b → (b || has_user us x) ≡ true → get_or (u ∷ us) (cond b 0 (suc (place us x))) d ≡ x
    here old true e h = sym (same_user-true x u e)
    here old false e h = old h

-- what is kept for each user, read at the place of one
pub map-place : {Y : Type 0} (f : User → Y) (us : List User) (x : User) (d : Y) → has_user us x ≡ true → get_or (map f us) (place us x) d ≡ f x
map-place f [] x d h = cc
map-place f (u ∷ us) x d h = here (map-place f us x d) (same_user x u) refl h
  where
    here : (has_user us x ≡ true → get_or (map f us) (place us x) d ≡ f x) → (b : Bool) → same_user x u ≡ b → (b || has_user us x) ≡ true → get_or (map f (u ∷ us)) (cond b 0 (suc (place us x))) d ≡ f x
    here old true e h = ap f (sym (same_user-true x u e))
    here old false e h = old h

pub place-push : (us : List User) (y x : User) → has_user us x ≡ true → place (us ++ y ∷ []) x ≡ place us x
place-push [] y x h = cc
place-push (u ∷ us) y x h = here (place-push us y x) (same_user x u) h
  where
    here : (has_user us x ≡ true → place (us ++ y ∷ []) x ≡ place us x) → (b : Bool) → (b || has_user us x) ≡ true → cond b 0 (suc (place (us ++ y ∷ []) x)) ≡ cond b 0 (suc (place us x))
    here old true h = refl
    here old false h = ap suc (old h)

pub place-new : (us : List User) (y : User) → has_user us y ≡ false → place (us ++ y ∷ []) y ≡ length us
place-new [] y h = rw (same_user-refl y) refl
place-new (u ∷ us) y h = here (place-new us y) (same_user y u) h
  where
    here : (has_user us y ≡ false → place (us ++ y ∷ []) y ≡ length us) → (b : Bool) → (b || has_user us y) ≡ false → cond b 0 (suc (place (us ++ y ∷ []) y)) ≡ suc (length us)
    here old true h = cc
    here old false h = ap suc (old h)

pub put-place : (old new : List User) (y : User) (n : ℕ) → new ≡ old ++ y ∷ [] → n ≡ length old → has_user old y ≡ false → n ≡ place new y
put-place old new y n grown end none = end ∙ sym (place-new old y none) ∙ ap (λ (us : List User). place us y) (sym grown)

pub same-number : (x u : User) → eqb x.0 u.0 ≡ same_user x u
same-number x u = grind (arith, nat_tests)

pub place-is : (us : List User) (x : User) → position_or_len (eqb x.0) (map (λ (u : User). u.0) us) ≡ place us x
place-is [] x = refl
place-is (u ∷ us) x = here (eqb x.0 u.0) (same_user x u) (same-number x u) (place-is us x)
  where
    here : (a b : Bool) → a ≡ b → position_or_len (eqb x.0) (map (λ (u : User). u.0) us) ≡ place us x → cond (not a) (1 + position_or_len (eqb x.0) (map (λ (u : User). u.0) us)) 0 ≡ cond b 0 (suc (place us x))
    here true true e old = refl
    here false false e old = omega (arith, old)
    here true false e old = cc
    here false true e old = cc

-- who isn't one of the users has the place past the last
pub place-absent : (us : List User) (x : User) → has_user us x ≡ false → place us x ≡ length us
place-absent [] x h = refl
place-absent (u ∷ us) x h = here (same_user x u) h (place-absent us x)
  where
    here : (b : Bool) → (b || has_user us x) ≡ false → (has_user us x ≡ false → place us x ≡ length us) → cond b 0 (suc (place us x)) ≡ suc (length us)
    here true h more = absurd cc
    here false h more = ap suc (more h)

pub has-is : (us : List User) (x : User) → ltb (place us x) (length us) ≡ has_user us x
has-is us x = here (has_user us x) refl
  where
    here : (b : Bool) → has_user us x ≡ b → ltb (place us x) (length us) ≡ b
    here true h = let k = place-lt us x h in grind (arith, nat_tests, k)
    here false h = let k = place-absent us x h in grind (arith, nat_tests, k)

pub found-is : (us : List User) (x : User) (ks : List ℕ) → ks ≡ map (λ (u : User). u.0) us → position (eqb x.0) ks ≡ found us x
found-is us x ks e = ap (λ (ns : List ℕ). position (eqb x.0) ns) e ∙ ap (λ (n : ℕ). cond (ltb n (length (map (λ (u : User). u.0) us))) (Some n) None) (place-is us x)
    ∙ ap (λ (n : ℕ). cond (ltb (place us x) n) (Some (place us x)) None) (length-map us (λ (u : User). u.0)) ∙ ap (λ (b : Bool). cond b (Some (place us x)) None) (has-is us x)

any-is : (us : List User) (x : User) → list_any (eqb x.0) (map (λ (u : User). u.0) us) ≡ has_user us x
any-is [] x = refl
any-is (u ∷ us) x = ap (λ (b : Bool). b || list_any (eqb x.0) (map (λ (v : User). v.0) us)) (same-number x u) ∙ ap (λ (b : Bool). same_user x u || b) (any-is us x)

pub keys-put : (us us' : List User) (x : User) (ks ks' : List ℕ) → ks ≡ map (λ (u : User). u.0) us → ks' ≡ cond (list_any (eqb x.0) ks) ks (ks ++ x.0 ∷ []) → has_user us x ≡ false → us' ≡ us ++ x ∷ [] → ks' ≡ map (λ (u : User). u.0) us'
keys-put us us' x ks ks' was put none grown =
    let a : list_any (eqb x.0) ks ≡ false = ap (λ (ns : List ℕ). list_any (eqb x.0) ns) was ∙ any-is us x ∙ none in
    put ∙ ap (λ (b : Bool). cond b ks (ks ++ x.0 ∷ [])) a ∙ ap (λ (ns : List ℕ). ns ++ x.0 ∷ []) was ∙ sym (map_push (λ (u : User). u.0) us x) ∙ ap (λ (vs : List User). map (λ (u : User). u.0) vs) (sym grown)

-- users that ascend come one after the other, each for the first time
pub fresh-next : (us : List User) (k : ℕ) (d : User) → IsStrictlySortedBy user_cmp us → k < length us → has_user (take k us) (get_or us k d) ≡ false
fresh-next [] k d sorted lt = absurd (omega (arith, lt))
fresh-next (u ∷ us) zero d sorted lt = refl
fresh-next (u ∷ us) (suc k) d sorted lt =
    let below : k < length us = omega (arith, lt) in
    let above : user_cmp u (get_or us k d) ≡ Less = All-after_first user_cmp u us sorted k d below in
    let other : same_user (get_or us k d) u ≡ false = grind (arith, nat_tests, above) in
    rw (other, fresh-next us k d (sorted_tail user_cmp u us sorted) below) refl

-- one more of them is met
pub with-next : (us met grown : List User) (k : ℕ) (d : User) → IsStrictlySortedBy user_cmp us → k < length us → met ≡ take k us → grown ≡ with_user met (get_or us k d) → grown ≡ take (k + 1) us
with-next us met grown k d sorted lt was is =
    is ∙ ap (λ (vs : List User). with_user vs (get_or us k d)) was ∙ rw (fresh-next us k d sorted lt) (sym (take_more us k d lt))
