-- Costs that are set one after the other.
use Rattle.std.proofs.Common.{◌≡◌, ◌<◌, ◌+◌, ◌∙◌, ◌||◌, ℕ, zero, suc, Bool, true, false, List, [], ◌∷◌, Option, Some, None, length, get_or, take, if◌then◌else◌, arith, refl, sym, ap, subst}
use Rattle.std.specs.Option.{option_or}
use Rattle.kin_ids.specs.declared.ids.User.{User}
use Rattle.kin_ids.specs.Users.{same_user, has_user}
use Rattle.kin_ids.proofs.Same.{same_user-true, same_user-sym}

has-next : (us : List User) (i : ℕ) (d x : User) → i < length us → has_user (take (suc i) us) x ≡ (has_user (take i us) x || same_user x (get_or us i d))
has-next [] i d x lt = absurd (omega (arith, lt))
has-next (u ∷ us) zero d x lt = last (same_user x u)
  where
    last : (b : Bool) → (b || false) ≡ b
    last true = refl
    last false = refl
has-next (u ∷ us) (suc i) d x lt = here (same_user x u) (has-next us i d x (omega (arith, lt)))
  where
    here : (b : Bool) → has_user (take (suc i) us) x ≡ (has_user (take i us) x || same_user x (get_or us i d)) → (b || has_user (take (suc i) us) x) ≡ ((b || has_user (take i us) x) || same_user x (get_or us i d))
    here true e = refl
    here false e = e

-- after one user more the first users have their costs
pub set-next : (f old new : User → Option ℕ) (us : List User) (i : ℕ) (d u : User) (value : Option ℕ) → i < length us → u ≡ get_or us i d → value ≡ f u
    → ((x : User) → old x ≡ (if has_user (take i us) x then f x else None))
    → ((x : User) → new x ≡ (if same_user u x then option_or value (old u) else old x))
    → (x : User) → new x ≡ (if has_user (take (i + 1) us) x then f x else None)
set-next f old new us i d u value lt is has was now x =
    let e : suc i ≡ i + 1 = omega arith in
    subst (λ (n : ℕ). new x ≡ (if has_user (take n us) x then f x else None)) e (now x ∙ here (same_user u x) refl ∙ sym (ap (λ (b : Bool). if b then f x else None) more))
  where
    more : has_user (take (suc i) us) x ≡ (has_user (take i us) x || same_user u x)
    more = has-next us i d x lt ∙ ap (λ (b : Bool). has_user (take i us) x || b) (ap (λ (y : User). same_user x y) (sym is) ∙ same_user-sym x u)

    mine : (o : Option ℕ) (b : Bool) → old u ≡ (if b then o else None) → option_or o (old u) ≡ (if b || true then o else None)
    mine None true e = e
    mine None false e = e
    mine (Some n) true e = refl
    mine (Some n) false e = refl

    kept : (b : Bool) → old x ≡ (if b then f x else None) → old x ≡ (if b || false then f x else None)
    kept true e = e
    kept false e = e

    here : (b : Bool) → same_user u x ≡ b → (if b then option_or value (old u) else old x) ≡ (if has_user (take i us) x || b then f x else None)
    here false e = kept (has_user (take i us) x) (was x)
    here true e = subst (λ (y : User). option_or value (old u) ≡ (if has_user (take i us) y || true then f y else None)) (same_user-true u x e)
        (ap (λ (o : Option ℕ). option_or o (old u)) has ∙ mine (f u) (has_user (take i us) u) (was u))
