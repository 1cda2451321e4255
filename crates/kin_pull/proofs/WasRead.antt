-- What was read, told by whose edges were read.
use Rattle.std.proofs.Common.{◌≡◌, ◌<◌, ◌≤◌, ◌+◌, ◌∙◌, ◌||◌, ◌&&◌, nat_lt, ℕ, zero, suc, Bool, true, false, eqb, add-one, List, [], ◌∷◌}
use Rattle.std.proofs.Common.{length, get_or, set, Option, Some, None, IfSome, is_some, if◌then◌else◌, arith, refl, sym, ap, ap₂, subst}
use Rattle.std.specs.List.Sorted.{IsStrictlySortedBy}
use Rattle.std.proofs.lemmas.Bool.{or_left, or_right}
use Rattle.std.proofs.lemmas.Bool.Decides.{nat_tests}
use Rattle.std.proofs.lemmas.List.{get_or-set_same, get_or-set_other}
use Rattle.kin_ids.specs.declared.ids.User.{User}
use Rattle.kin_ids.specs.Users.{same_user, has_user, user_cmp}
use Rattle.kin_ids.specs.Parts.{PartView}
use Rattle.kin_ids.proofs.Same.{same_user-refl}
use Rattle.kin_rules.specs.declared.pull_rules.Side.{Side}
use Rattle.kin_rules.specs.Edges.{places_of}
use Rattle.kin_rules.specs.LayerTables.{neighbours_seen}
use Rattle.kin_rules.specs.Places.{place}
use Rattle.kin_rules.proofs.Places.{place-lt, get-place}
use Rattle.kin_rules.proofs.PlacedValues.{place-at}
use Rattle.kin_pull.specs.Passes.{AreRead, read_of, was_read}
use Rattle.kin_pull.specs.Settles.{ever, reads_on, sum_over}
use Rattle.kin_pull.proofs.Marks.{there-at}

pub or-false : (a : Bool) → (a || false) ≡ a
or-false true = refl
or-false false = refl

or-true : (a : Bool) → (a || true) ≡ true
or-true true = refl
or-true false = refl

-- sums over the users
pub sum-within : (f g : User → ℕ) (us : List User) → ((x : User) → has_user us x ≡ true → f x ≡ g x) → sum_over f us ≡ sum_over g us
sum-within f g [] same = refl
sum-within f g (u ∷ us) same =
    ap₂ (λ (m n : ℕ). m + n) (same u (or_left (same_user u u) (has_user us u) (same_user-refl u)))
    (sum-within f g us (λ x h. same x (or_right (same_user x u) (has_user us x) h)))

pub sum-none : (f : User → ℕ) (us : List User) → ((x : User) → f x ≡ 0) → sum_over f us ≡ 0
sum-none f [] none = refl
sum-none f (u ∷ us) none = let a = none u in let b = sum-none f us none in omega (arith, a, b)

sum-each : (f g : User → ℕ) (us : List User) (d : User) → ((j : ℕ) → j < length us → g (get_or us j d) ≡ f (get_or us j d))
    → sum_over g us ≡ sum_over f us
sum-each f g [] d same = refl
sum-each f g (u ∷ us) d same =
    ap₂ (λ (m n : ℕ). m + n) (same 0 (omega arith)) (sum-each f g us d (λ j lt. same (suc j) (omega (arith, lt))))

-- a sum in which one item is greater
sum-more : (f g : User → ℕ) (us : List User) (i : ℕ) (d : User) (n : ℕ) → i < length us → g (get_or us i d) ≡ f (get_or us i d) + n
    → ((j : ℕ) → j < length us → (j ≡ i → ⊥) → g (get_or us j d) ≡ f (get_or us j d)) → sum_over g us ≡ sum_over f us + n
sum-more f g [] i d n lt more same = absurd (omega (arith, lt))
sum-more f g (u ∷ us) zero d n lt more same =
    let rest = sum-each f g us d (λ j below. same (suc j) (omega (arith, below)) (λ e. omega (arith, e))) in
    omega (arith, more, rest)
sum-more f g (u ∷ us) (suc i) d n lt more same =
    let one = same 0 (omega arith) (λ e. omega (arith, e)) in
    let rest = sum-more f g us i d n (omega (arith, lt)) more (λ j below apart. same (suc j) (omega (arith, below)) (λ e. apart (omega (arith, e)))) in
    omega (arith, one, rest)

-- the edges of one user more were read
pub was-put : (us : List User) (ends : List (Option (List ℕ))) (i : ℕ) (row : List ℕ) (x : User) → i < length ends
    → was_read us (set ends i (Some row)) x ≡ (was_read us ends x || eqb (place us x) i)
was-put us ends i row x lt = here (eqb (place us x) i) refl
  where
    here : (b : Bool) → eqb (place us x) i ≡ b → was_read us (set ends i (Some row)) x ≡ (was_read us ends x || eqb (place us x) i)
    here true e =
        let same : place us x ≡ i = grind (arith, nat_tests, e) in
        ap (λ (o : Option (List ℕ)). is_some o) (ap (λ (n : ℕ). get_or (set ends i (Some row)) n None) same ∙ get_or-set_same ends i (Some row) None lt)
        ∙ sym (ap (λ (b : Bool). was_read us ends x || b) e ∙ or-true (was_read us ends x))
    here false e =
        ap (λ (o : Option (List ℕ)). is_some o) (get_or-set_other ends i (place us x) (Some row) None (λ same. let k : ⊥ = grind (arith, nat_tests, e, same) in k))
        ∙ sym (ap (λ (b : Bool). was_read us ends x || b) e ∙ or-false (was_read us ends x))

-- they had been read before
pub was-there : (us : List User) (ends : List (Option (List ℕ))) (i : ℕ) (x : User) → is_some (get_or ends i None) ≡ true
    → was_read us ends x ≡ (was_read us ends x || eqb (place us x) i)
was-there us ends i x on = here (eqb (place us x) i) refl
  where
    here : (b : Bool) → eqb (place us x) i ≡ b → was_read us ends x ≡ (was_read us ends x || eqb (place us x) i)
    here true e =
        let same : place us x ≡ i = grind (arith, nat_tests, e) in
        ap (λ (n : ℕ). is_some (get_or ends n None)) same ∙ (on
        ∙ sym (ap (λ (b : Bool). was_read us ends x || b) e ∙ or-true (was_read us ends x)))
    here false e = sym (ap (λ (b : Bool). was_read us ends x || b) e ∙ or-false (was_read us ends x))

-- what was read grows by what is read of that user
pub read-more : (s : Side) (v : PartView) (us : List User) (ends : List (Option (List ℕ))) (i : ℕ) (user : User) (row : List ℕ)
    → IsStrictlySortedBy user_cmp us → AreRead s v us ends → i < length us → place us user ≡ i → is_some (get_or ends i None) ≡ false
    → read_of s v us (set ends i (Some row)) ≡ read_of s v us ends + reads_on s v user
read-more s v us ends i user row ascend old within at off =
    sum-more (λ x. if was_read us ends x then reads_on s v x else 0) (λ x. if was_read us (set ends i (Some row)) x then reads_on s v x else 0)
    us i user (reads_on s v user) within here others
  where
    inside : i < length ends
    inside = omega (arith, within, old.long)

    is-user : get_or us i user ≡ user
    is-user = ap (λ (n : ℕ). get_or us n user) (sym at)
        ∙ get-place us user user (there-at us user (subst (λ (n : ℕ). n < length us) (sym at) within))

    before : (j : ℕ) → j < length us → was_read us ends (get_or us j user) ≡ is_some (get_or ends j None)
    before j lt = ap (λ (n : ℕ). is_some (get_or ends n None)) (place-at us j user ascend lt)

    after : (j : ℕ) → j < length us → was_read us (set ends i (Some row)) (get_or us j user) ≡ is_some (get_or (set ends i (Some row)) j None)
    after j lt = ap (λ (n : ℕ). is_some (get_or (set ends i (Some row)) n None)) (place-at us j user ascend lt)

    here : (if was_read us (set ends i (Some row)) (get_or us i user) then reads_on s v (get_or us i user) else 0)
        ≡ (if was_read us ends (get_or us i user) then reads_on s v (get_or us i user) else 0) + reads_on s v user
    here =
        let is : (if was_read us (set ends i (Some row)) (get_or us i user) then reads_on s v (get_or us i user) else 0) ≡ reads_on s v user
        = ap (λ (b : Bool). if b then reads_on s v (get_or us i user) else 0) (after i within
        ∙ ap (λ (o : Option (List ℕ)). is_some o) (get_or-set_same ends i (Some row) None inside))
        ∙ ap (λ (x : User). reads_on s v x) is-user in
        let was : (if was_read us ends (get_or us i user) then reads_on s v (get_or us i user) else 0) ≡ 0
        = ap (λ (b : Bool). if b then reads_on s v (get_or us i user) else 0) (before i within ∙ off) in
        omega (arith, is, was)

    others : (j : ℕ) → j < length us → (j ≡ i → ⊥)
        → (if was_read us (set ends i (Some row)) (get_or us j user) then reads_on s v (get_or us j user) else 0)
        ≡ (if was_read us ends (get_or us j user) then reads_on s v (get_or us j user) else 0)
    others j lt apart =
        ap (λ (b : Bool). if b then reads_on s v (get_or us j user) else 0) (after j lt
        ∙ (ap (λ (o : Option (List ℕ)). is_some o) (get_or-set_other ends i j (Some row) None apart) ∙ sym (before j lt)))

-- Of users at places below i those of whom a test holds were read; and then the one at place i.
pub told-start : (p : ℕ) (start b : Bool) → start ≡ (start || (nat_lt p 0 && b))
told-start p start b =
    let none : nat_lt p 0 ≡ false = grind (arith, nat_tests) in
    sym (ap (λ (c : Bool). start || (c && b)) none ∙ or-false start)

pub told-one : (was f at : Bool) → f ≡ true → (was || at) ≡ (was || (f && at))
told-one was f at on = ap (λ (b : Bool). was || (b && at)) (sym on)

pub told-step : (f : User → Bool) (us : List User) (i : ℕ) (u x : User) (start was is : Bool) → i < length us → u ≡ get_or us i u
    → has_user us x ≡ true → is ≡ (was || (f u && eqb (place us x) i)) → was ≡ (start || (nat_lt (place us x) i && f x))
    → is ≡ (start || (nat_lt (place us x) (i + 1) && f x))
told-step f us i u x start was is lt at there now old = here (eqb (place us x) i) refl
  where
    and-false : (a : Bool) → (a && false) ≡ false
    and-false true = refl
    and-false false = refl

    and-true : (a : Bool) → (a && true) ≡ a
    and-true true = refl
    and-true false = refl

    here : (b : Bool) → eqb (place us x) i ≡ b → is ≡ (start || (nat_lt (place us x) (i + 1) && f x))
    here true e =
        let same : place us x ≡ i = grind (arith, nat_tests, e) in
        let user : u ≡ x = at ∙ (ap (λ (n : ℕ). get_or us n u) (sym same) ∙ get-place us x u there) in
        let no : nat_lt (place us x) i ≡ false = grind (arith, nat_tests, same) in
        let yes : nat_lt (place us x) (i + 1) ≡ true = grind (arith, nat_tests, same) in
        let before : was ≡ start = old ∙ (ap (λ (c : Bool). start || (c && f x)) no ∙ or-false start) in
        let one : (f u && eqb (place us x) i) ≡ f x = ap (λ (c : Bool). f u && c) e ∙ (and-true (f u) ∙ ap f user) in
        now ∙ (ap₂ (λ (a b : Bool). a || b) before one ∙ sym (ap (λ (c : Bool). start || (c && f x)) yes))
    here false e =
        let nothing : (f u && eqb (place us x) i) ≡ false = ap (λ (c : Bool). f u && c) e ∙ and-false (f u) in
        let same : nat_lt (place us x) i ≡ nat_lt (place us x) (i + 1) = below (nat_lt (place us x) i) refl e in
        now ∙ (ap (λ (c : Bool). was || c) nothing ∙ (or-false was ∙ (old ∙ ap (λ (c : Bool). start || (c && f x)) same)))
      where
        below : (b : Bool) → nat_lt (place us x) i ≡ b → eqb (place us x) i ≡ false → nat_lt (place us x) i ≡ nat_lt (place us x) (i + 1)
        below true l e =
            let yes : nat_lt (place us x) (i + 1) ≡ true = grind (arith, nat_tests, l) in
            l ∙ sym yes
        below false l e =
            let no : nat_lt (place us x) (i + 1) ≡ false = grind (arith, nat_tests, l, e) in
            l ∙ sym no

pub told-end : (us : List User) (i : ℕ) (x : User) (start was b : Bool) → length us ≤ i → has_user us x ≡ true
    → was ≡ (start || (nat_lt (place us x) i && b)) → was ≡ (start || b)
told-end us i x start was b le there old =
    let lt = place-lt us x there in
    let yes : nat_lt (place us x) i ≡ true = grind (arith, nat_tests, lt, le) in
    old ∙ ap (λ (c : Bool). start || (c && b)) yes

-- one layer more
pub ever-step : (f : ℕ → Bool) (n : ℕ) (b was is : Bool) → is ≡ (was || b) → was ≡ ever f n → b ≡ f n → is ≡ ever f (n + 1)
ever-step f n b was is now old one = now ∙ (ap₂ (λ (x y : Bool). x || y) old one ∙ ap (ever f) (sym (add-one n)))

pub ever-same : (f g : ℕ → Bool) (n : ℕ) → ((j : ℕ) → j < n → f j ≡ g j) → ever f n ≡ ever g n
ever-same f g zero same = refl
ever-same f g (suc n) same = ap₂ (λ (a b : Bool). a || b) (ever-same f g n (λ j lt. same j (omega (arith, lt)))) (same n (omega arith))

pub ever-none : (f : ℕ → Bool) (n : ℕ) → ((j : ℕ) → j < n → f j ≡ false) → ever f n ≡ false
ever-none f zero none = refl
ever-none f (suc n) none = ap₂ (λ (a b : Bool). a || b) (ever-none f n (λ j lt. none j (omega (arith, lt)))) (none n (omega arith))

-- nothing was read yet
pub none-was : (us : List User) (ends : List (Option (List ℕ))) (x : User) → ((p : ℕ) → get_or ends p None ≡ None)
    → was_read us ends x ≡ false
none-was us ends x none = ap (λ (o : Option (List ℕ)). is_some o) (none (place us x))

pub none-read-of : (s : Side) (v : PartView) (us : List User) (ends : List (Option (List ℕ))) → ((p : ℕ) → get_or ends p None ≡ None)
    → read_of s v us ends ≡ 0
none-read-of s v us ends none = sum-none (λ x. if was_read us ends x then reads_on s v x else 0) us
    (λ x. ap (λ (b : Bool). if b then reads_on s v x else 0) (none-was us ends x none))

pub none-are-read : (s : Side) (v : PartView) (us : List User) (ends : List (Option (List ℕ))) → length ends ≡ length us
    → ((p : ℕ) → get_or ends p None ≡ None) → AreRead s v us ends
none-are-read s v us ends long none = record {
  long = long;
  each = λ x there. subst (λ (o : Option (List ℕ)). IfSome o (λ row. row ≡ places_of us (neighbours_seen s v x))) (sym (none (place us x))) tt;
}

-- what was read of those who were read
pub read-within : (s : Side) (v : PartView) (us : List User) (ends : List (Option (List ℕ))) (f : User → Bool)
    → ((x : User) → has_user us x ≡ true → was_read us ends x ≡ f x)
    → read_of s v us ends ≡ sum_over (λ x. if f x then reads_on s v x else 0) us
read-within s v us ends f are = sum-within (λ x. if was_read us ends x then reads_on s v x else 0) (λ x. if f x then reads_on s v x else 0) us
    (λ x h. ap (λ (b : Bool). if b then reads_on s v x else 0) (are x h))

-- what is read once is at most what is read layer by layer
pub sum-ever : (f : User → ℕ → Bool) (a : User → ℕ) (n : ℕ) (us : List User) → sum_over (λ x. if ever (f x) (suc n) then a x else 0) us
    ≤ sum_over (λ x. if ever (f x) n then a x else 0) us + sum_over (λ x. if f x n then a x else 0) us
sum-ever f a n [] = omega arith
sum-ever f a n (u ∷ us) =
    let one = either (ever (f u) n) (f u n) (a u) in
    let rest = sum-ever f a n us in
    omega (arith, one, rest)
  where
    either : (b c : Bool) (m : ℕ) → (if b || c then m else 0) ≤ (if b then m else 0) + (if c then m else 0)
    either true c m = omega arith
    either false c m = omega arith
