-- What is read of a column: of a landmark, of a user, and of the marks of nobody.
use Rattle.std.proofs.Common.{◌≡◌, ◌<◌, ◌≤◌, ◌∙◌, ◌||◌, ⊎_elim, ℕ, zero, suc, Bool, true, false, cond, List, [], ◌∷◌, Option, Some, None, length, get_or, filter, arith, refl, sym, ap, subst}
use Rattle.std.specs.Prelude.{slice_get}
use Rattle.std.specs.List.{list_any}
use Rattle.std.proofs.lemmas.Bool.{both_ways, cases_lt, or_right}
use Rattle.std.proofs.lemmas.List.{get_or_past}
use Rattle.kin_ids.specs.declared.ids.User.{User}
use Rattle.kin_ids.specs.Users.{same_user, has_user}
use Rattle.kin_ids.proofs.Same.{same_user-true, same_user-refl}
use Rattle.kin_rules.specs.Places.{place}
use Rattle.kin_rules.specs.Results.{ColumnView, value_of}
use Rattle.kin_rules.proofs.Places.{place-lt, place-absent}
use Rattle.kin_rules.proofs.PlacedValues.{place-at}
use Rattle.kin_push.specs.States.{IsPushState, IsQuiet, PushState, is_active, state, value_in}
use Rattle.kin_mine.specs.Marks.{are_quiet, is_marked}

-- a column without values of others has a user's value at its place
pub column-value : (users : List User) (c : ColumnView) (marks : List Bool) (u : User) → length c.values ≡ length users → c.others ≡ [] → value_of users c u ≡ value_in (state users c.values marks) u
column-value users c marks u long alone = split (has_user users u) refl
  where
    split : (b : Bool) → has_user users u ≡ b → value_of users c u ≡ value_in (state users c.values marks) u
    split true e = rw e refl
    split false e = rw (e, alone) (sym (get_or_past c.values (place users u) None (let p = place-absent users u e in omega (arith, p, long))))

-- whoever passes none of a list's tests
filter-none : {X : Type 0} (p : X → Bool) (xs : List X) → filter p xs ≡ [] → list_any p xs ≡ false
filter-none p [] e = refl
filter-none p (x ∷ xs) e = here (p x) refl (filter-none p xs)
  where
    here : (b : Bool) → p x ≡ b → (filter p xs ≡ [] → list_any p xs ≡ false) → list_any p (x ∷ xs) ≡ false
    here true is rest = absurd (let same : cond true (x ∷ filter p xs) (filter p xs) ≡ [] = subst (λ (b : Bool). cond b (x ∷ filter p xs) (filter p xs) ≡ []) is e in (cc))
    here false is rest = rw is (rest (subst (λ (b : Bool). cond b (x ∷ filter p xs) (filter p xs) ≡ []) is e))

pub any-false : {X : Type 0} (p : X → Bool) (xs : List X) → ((k : ℕ) (d : X) → k < length xs → p (get_or xs k d) ≡ false) → list_any p xs ≡ false
any-false p [] each = refl
any-false p (x ∷ xs) each = rw (each 0 x (omega arith)) (any-false p xs (λ k d lt. each (suc k) d (omega (arith, lt))))

pub false-any : {X : Type 0} (p : X → Bool) (xs : List X) → list_any p xs ≡ false → (k : ℕ) (d : X) → k < length xs → p (get_or xs k d) ≡ false
false-any p [] none k d lt = absurd (omega (arith, lt))
false-any p (x ∷ xs) none k d lt = here (p x) refl k lt (false-any p xs)
  where
    here : (b : Bool) → p x ≡ b → (k : ℕ) → k < length (x ∷ xs) → (list_any p xs ≡ false → (j : ℕ) (e : _) → j < length xs → p (get_or xs j e) ≡ false) → p (get_or (x ∷ xs) k d) ≡ false
    here true is k lt rest = absurd (both_ways (p x || list_any p xs) none (rw is refl))
    here false is zero lt rest = is
    here false is (suc k) lt rest = rest (subst (λ (b : Bool). (b || list_any p xs) ≡ false) is none) k d (omega (arith, lt))

-- where some element passes a test, one does at a place
pub any-at : {X : Type 0} (p : X → Bool) (xs : List X) (d : X) → list_any p xs ≡ true → (k : ℕ) × (k < length xs) × (p (get_or xs k d) ≡ true)
any-at p [] d e = absurd cc
any-at p (x ∷ xs) d e = here (p x) refl (any-at p xs d)
  where
    here : (b : Bool) → p x ≡ b → (list_any p xs ≡ true → (k : ℕ) × (k < length xs) × (p (get_or xs k d) ≡ true)) → (k : ℕ) × (k < length (x ∷ xs)) × (p (get_or (x ∷ xs) k d) ≡ true)
    here true is rest = (0, (omega arith), is)
    here false is rest = let r = rest (subst (λ (b : Bool). (b || list_any p xs) ≡ true) is e) in (suc r.0, omega (arith, r.1), r.2)

none-there : (us : List User) (p : User → Bool) → list_any p us ≡ false → (u : User) → has_user us u ≡ true → p u ≡ false
none-there [] p none u there = absurd cc
none-there (x ∷ xs) p none u there = split (same_user u x) refl (p x) refl (none-there xs p)
  where
    split : (a : Bool) → same_user u x ≡ a → (b : Bool) → p x ≡ b → (list_any p xs ≡ false → (w : User) → has_user xs w ≡ true → p w ≡ false) → p u ≡ false
    split a s true is rest = absurd (both_ways (p x || list_any p xs) none (rw is refl))
    split true s false is rest = subst (λ (y : User). p y ≡ false) (sym (same_user-true u x s)) is
    split false s false is rest = rest (subst (λ (b : Bool). (b || list_any p xs) ≡ false) is none) u (subst (λ (b : Bool). (b || has_user xs u) ≡ true) s there)

pub none-of : (us : List User) (p : User → Bool) → filter p us ≡ [] → (u : User) → has_user us u ≡ true → p u ≡ false
none-of us p none u there = none-there us p (filter-none p us none) u there

pub none-filtered : (us : List User) (p : User → Bool) → ((u : User) → has_user us u ≡ true → p u ≡ false) → filter p us ≡ []
none-filtered [] p off = refl
none-filtered (x ∷ xs) p off = rw (off x (rw (same_user-refl x) refl)) (none-filtered xs p (λ u there. off u (or_right (same_user u x) (has_user xs u) there)))

-- where no place is marked nobody is
pub quiet-marked : (users : List User) (marks : List (List Bool)) → are_quiet marks → (u : User) → is_marked users marks u ≡ false
quiet-marked users marks quiet u = any-false (λ on. get_or on (place users u) false) marks (λ k d lt. subst (λ (on : List Bool). get_or on (place users u) false ≡ false) (same marks k [] d lt) (quiet k (place users u)))
  where
    same : (xs : List (List Bool)) (k : ℕ) (d e : List Bool) → k < length xs → get_or xs k d ≡ get_or xs k e
    same [] k d e lt = absurd (omega (arith, lt))
    same (x ∷ xs) zero d e lt = refl
    same (x ∷ xs) (suc k) d e lt = same xs k d e (omega (arith, lt))

-- where no user is marked nobody is active in any column
pub lane-quiet : (users : List User) (marks : List (List Bool)) (values : List (Option ℕ)) (i : ℕ) → length (get_or marks i []) ≡ length users → ((u : User) → has_user users u ≡ true → is_marked users marks u ≡ false)
    → IsQuiet (state users values (get_or marks i []))
lane-quiet users marks values i long off u = split (has_user users u) refl
  where
    within : has_user users u ≡ true → get_or (get_or marks i []) (place users u) false ≡ false
    within there = ⊎_elim (λ (lt : i < length marks). false-any (λ on. get_or on (place users u) false) marks (off u there) i [] lt)
        (λ (ge : length marks ≤ i). rw (get_or_past marks i [] ge) refl) (cases_lt i (length marks))

    split : (b : Bool) → has_user users u ≡ b → is_active (state users values (get_or marks i [])) u ≡ false
    split true e = within e
    split false e = get_or_past (get_or marks i []) (place users u) false (let p = place-absent users u e in omega (arith, p, long))

-- where no user is active no place is marked
pub quiet-places : (s : PushState) → IsPushState s → IsQuiet s → (i : ℕ) → get_or s.marks i false ≡ false
quiet-places s is quiet i = ⊎_elim inside (λ (ge : length s.marks ≤ i). get_or_past s.marks i false ge) (cases_lt i (length s.marks))
  where
    inside : i < length s.marks → get_or s.marks i false ≡ false
    inside lt =
        let fits : i < length s.users = omega (arith, lt, is.marked) in
        subst (λ (p : ℕ). get_or s.marks p false ≡ false) (place-at s.users i (record { 0 = 0 }) is.ascend fits) (quiet (get_or s.users i (record { 0 = 0 })))
