-- Rows that are kept, read user by user.
use Rattle.std.proofs.Common.{◌≡◌, ◌<◌, ◌+◌, ◌∙◌, ◌||◌, ◌==◌, ltb, ℕ, suc, Bool, true, false, cond, List, [], ◌∷◌, ◌++◌, length, get_or, take, map, filter, count_by, arith, refl, sym, ap, ap₂, subst}
use Rattle.std.specs.List.{flat_map, sum_by}
use Rattle.std.specs.List.Sorted.{IsPermutation, IsStrictlySortedBy}
use Rattle.std.proofs.lemmas.Grind.{flat_map-append}
use Rattle.std.proofs.lemmas.List.{append-nil, ext_get_or, get_or_default, get_or-map, length-map, take_more}
use Rattle.std.proofs.lemmas.Bool.Decides.{nat_tests}
use Rattle.std.proofs.lemmas.List.Sums.{sum_by-cons}
use Rattle.kin_ids.specs.declared.ids.User.{User}
use Rattle.kin_ids.specs.Users.{same_user, has_user, user_cmp}
use Rattle.kin_ids.specs.Follows.{IsOnce}
use Rattle.kin_ids.proofs.Same.{same_user-true, same_user-refl}
use Rattle.kin_rules.specs.Places.{place}
use Rattle.kin_rules.proofs.ExposureEntries.{count-append}
use Rattle.kin_rules.proofs.PlacedValues.{place-at}
use Rattle.kin_rules.proofs.Places.{get-place, has-is}
use Rattle.kin_pull.specs.States.{KeptView, IsKept, row_in, value_in}
use Rattle.kin_pull.proofs.Permuted.{filter-none, filters-permuted}

-- a row is the values of the users in their order
pub row-is : {V : Type 0} (top : ℕ) (first : V) (us : List User) (k : KeptView V) (j : ℕ) → IsKept top us k → j < top
    → row_in k (suc j) ≡ map (value_in first us k (suc j)) us
row-is {V} top first us k j kept below = ext_get_or first (row_in k (suc j)) (map (value_in first us k (suc j)) us) (long ∙ sym (length-map us (value_in first us k (suc j)))) each
  where
    long : length (row_in k (suc j)) ≡ length us
    long = kept.rows j below

    nobody : User
    nobody = record { 0 = 0 }

    each : (i : ℕ) → i < length (row_in k (suc j)) → get_or (row_in k (suc j)) i first ≡ get_or (map (value_in first us k (suc j)) us) i first
    each i lt =
        let within : i < length us = subst (λ (n : ℕ). i < n) long lt in
        sym (get_or-map (value_in first us k (suc j)) us i nobody first within
        ∙ ap (λ (n : ℕ). get_or (row_in k (suc j)) n first) (place-at us i nobody kept.ascend within))

-- what is counted in rows is counted user by user
pub count-rows : {X : Type 0} (p : X → Bool) (f : User → List X) (us : List User) → count_by p (flat_map (λ xs. xs) (map f us)) ≡ sum_by (λ u. count_by p (f u)) us
count-rows p f [] = refl
count-rows p f (u ∷ us) = count-append p (f u) (flat_map (λ xs. xs) (map f us)) ∙ ap (λ (n : ℕ). count_by p (f u) + n) (count-rows p f us) ∙ sym (sum_by-cons (λ w. count_by p (f w)) u us)

abbrev one_when : Bool → User → List User
one_when true w = w ∷ []
one_when false w = []

once-one : (us : List User) (w : User) → IsOnce same_user us → filter (same_user w) us ≡ one_when (has_user us w) w
once-one [] w once = refl
once-one (u ∷ us) w once = here (same_user w u) refl (once-one us w once.1)
  where
    here : (b : Bool) → same_user w u ≡ b → filter (same_user w) us ≡ one_when (has_user us w) w
        → cond b (u ∷ filter (same_user w) us) (filter (same_user w) us) ≡ one_when (b || has_user us w) w
    here true e rest =
        let is : w ≡ u = same_user-true w u e in
        let none : has_user us w ≡ false = subst (λ (z : User). has_user us z ≡ false) (sym is) once.0 in
        ap₂ (λ (z : User) (zs : List User). z ∷ zs) (sym is) (filter-none (same_user w) us none)
    here false e rest = rest

-- users who each stand once are in another order those who stand once and are the same
pub same-members : (us vs : List User) → IsOnce same_user us → IsOnce same_user vs → ((w : User) → has_user us w ≡ has_user vs w) → IsPermutation us vs
same-members us vs once again same = filters-permuted same_user same_user-true same_user-refl (λ (u : User). u) us vs
    (λ w. once-one us w once ∙ ap (λ (b : Bool). one_when b w) (same w) ∙ sym (once-one vs w again))

-- the items of one row more
pub flat-more : {X : Type 0} (rows : List (List X)) (i : ℕ) → i < length rows
    → flat_map (λ row. row) (take (i + 1) rows) ≡ flat_map (λ row. row) (take i rows) ++ get_or rows i []
flat-more {X} rows i lt =
    ap (λ (xs : List (List X)). flat_map (λ row. row) xs) (take_more rows i [] lt)
    ∙ flat_map-append (λ (row : List X). row) (take i rows) (get_or rows i [] ∷ [])
    ∙ ap (λ (xs : List X). flat_map (λ row. row) (take i rows) ++ xs) (append-nil (get_or rows i []))

pub nil-of : {X : Type 0} (xs : List X) → length xs ≡ 0 → xs ≡ []
nil-of [] e = refl
nil-of (x ∷ xs) e = absurd (omega (arith, e))

-- the row of each user's entries, where u has others: at the place of u, and at any other
module _ {X : Type 0} (us : List User) (rows next : List (List X)) (u : User) (i : ℕ) (own : List X) (d : User) (up : IsStrictlySortedBy user_cmp us) (lt : i < length us)
    (row : (p : ℕ) → get_or next p [] ≡ cond (p == place us u) own (get_or rows p [])) where
  pub row-mine : (get_or us i d).0 ≡ u.0 → get_or next i [] ≡ own
  row-mine e =
      let is : get_or us i d ≡ u = ap (λ (n : ℕ). let w : User = record { 0 = n } in w) e in
      let at : place us u ≡ i = ap (place us) (sym is) ∙ place-at us i d up lt in
      let here : (i == place us u) ≡ true = grind (arith, nat_tests, at) in
      row i ∙ rw here refl

  pub row-others : (x : List X) → length rows ≡ length us → ((get_or us i d).0 ≡ u.0 → ⊥) → get_or next i [] ≡ get_or rows i x
  row-others x long apart = row i ∙ here (i == place us u) refl
    where
      here : (b : Bool) → (i == place us u) ≡ b → cond b own (get_or rows i []) ≡ get_or rows i x
      here false e = get_or_default rows i [] x (subst (λ (n : ℕ). i < n) (sym long) lt)
      here true e =
          let at : i ≡ place us u = grind (arith, nat_tests, e) in
          let there : has_user us u ≡ true = sym (has-is us u) ∙ (let t : ltb (place us u) (length us) ≡ true = grind (arith, nat_tests, at, lt) in t) in
          absurd (apart (ap (λ (w : User). w.0) (ap (λ (n : ℕ). get_or us n d) at ∙ get-place us u d there)))
