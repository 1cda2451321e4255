-- States, read and written at places.
use Rattle.std.proofs.Common.{◌≡◌, ◌<◌, ◌∙◌, ℕ, Bool, true, false, List, Option, Some, None, IfSome, Result, Ok, Err, length, get_or, set}
use Rattle.std.proofs.Common.{eqb, if◌then◌else◌, arith, refl, sym, ap, subst}
use Rattle.std.specs.List.Sorted.{IsStrictlySortedBy}
use Rattle.std.specs.Result.{result_ok}
use Rattle.std.proofs.lemmas.Bool.{both_ways, eqb-true}
use Rattle.std.proofs.lemmas.List.{get_or-set_same, get_or-set_other, length-set}
use Rattle.kin_ids.specs.declared.ids.User.{User}
use Rattle.kin_ids.specs.Users.{same_user, has_user, user_cmp}
use Rattle.kin_ids.proofs.Same.{same_user-true}
use Rattle.kin_rules.specs.Places.{place}
use Rattle.kin_rules.specs.Spots.{IsSpot}
use Rattle.kin_rules.proofs.Places.{place-lt}
use Rattle.kin_rules.proofs.PlacedValues.{place-apart, place-at as stands-at}
use Rattle.kin_rules.proofs.ColumnReads.{past-none, place-at}
use Rattle.kin_push.specs.States.{PushState, IsPushState, value_in, is_active, state}

-- what is written at the place of a user is read for it alone
pub read-put : {V : Type 0} (us : List User) (vs : List V) (u : User) (v d : V) → length vs ≡ length us → has_user us u ≡ true → (x : User)
    → get_or (set vs (place us u) v) (place us x) d ≡ (if same_user u x then v else get_or vs (place us x) d)
read-put {V} us vs u v d fits there x = split (same_user u x) refl
  where
    split : (b : Bool) → same_user u x ≡ b → get_or (set vs (place us u) v) (place us x) d ≡ (if b then v else get_or vs (place us x) d)
    split true e =
        let l = place-lt us u there in
        subst (λ (y : User). get_or (set vs (place us u) v) (place us y) d ≡ v) (same_user-true u x e)
        (get_or-set_same vs (place us u) v d (omega (arith, l, fits)))
    split false e = get_or-set_other vs (place us u) (place us x) v d (place-apart us u x there e)

-- only users have a value, and only users are active
pub value-there : (s : PushState) (u : User) (n : ℕ) → IsPushState s → value_in s u ≡ Some n → has_user s.users u ≡ true
value-there s u n is e = here (has_user s.users u) refl
  where
    here : (b : Bool) → has_user s.users u ≡ b → b ≡ true
    here true h = refl
    here false h = let none = past-none s.users s.values u None is.valued h in absurd cc

pub active-there : (s : PushState) (u : User) → IsPushState s → is_active s u ≡ true → has_user s.users u ≡ true
active-there s u is e = here (has_user s.users u) refl
  where
    here : (b : Bool) → has_user s.users u ≡ b → b ≡ true
    here true h = refl
    here false h = absurd (both_ways (is_active s u) (past-none s.users s.marks u false is.marked h) e)

-- one mark is changed
pub with-mark : (us : List User) (vs : List (Option ℕ)) (ms ns : List Bool) (i : ℕ) (b : Bool) → ns ≡ set ms i b
    → IsPushState (state us vs ms) → IsPushState (state us vs ns)
with-mark us vs ms ns i b is s = record { ascend = s.ascend; valued = s.valued; marked = ap length is ∙ length-set ms i b ∙ s.marked }

-- what a search among ascending users finds
pub found-some : (us : List User) (u : User) (r : Result ℕ ℕ) (o : Option ℕ) → o ≡ result_ok r → IsSpot user_cmp us u r
    → IfSome o (λ i. (i ≡ place us u) × (i < length us) × (has_user us u ≡ true))
found-some us u (Ok i) o is at = rw is (sym (place-at us u i at), at.within, at.one)
found-some us u (Err i) o is away = rw is tt

pub found-none : (us : List User) (u : User) (r : Result ℕ ℕ) (o : Option ℕ) → o ≡ result_ok r → IsSpot user_cmp us u r → o ≡ None
    → has_user us u ≡ false
found-none us u (Ok i) o is at none = absurd cc
found-none us u (Err i) o is away none = away.none

-- a user that stands at a place has what is kept there
pub near : (us : List User) (vs : List (Option ℕ)) (u : User) (i : ℕ) (d : User) → IsStrictlySortedBy user_cmp us → i < length us
    → eqb (get_or us i d).0 u.0 ≡ true → get_or vs i None ≡ get_or vs (place us u) None
near us vs u i d ascend lt same = ap (λ (k : ℕ). get_or vs k None)
    (sym (ap (place us) (ap named (sym (eqb-true (get_or us i d).0 u.0 same))) ∙ stands-at us i d ascend lt))
  where
    named : ℕ → User
    named n = record { 0 = n }

-- whoever stands at a place that is marked is active
pub stands-active : (us : List User) (vs : List (Option ℕ)) (ms : List Bool) (i : ℕ) (d : User) → IsStrictlySortedBy user_cmp us
    → length ms ≡ length us → i < length ms → get_or ms i false ≡ true
    → is_active (state us vs ms) (get_or us i d) ≡ true
stands-active us vs ms i d ascend long lt on = ap (λ (k : ℕ). get_or ms k false) (stands-at us i d ascend (omega (arith, long, lt))) ∙ on
