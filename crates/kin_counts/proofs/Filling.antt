-- Numbers by key in tables with room.
use Rattle.std.proofs.Common.{◌≡◌, ◌<◌, ◌≤◌, ◌+◌, ◌∙◌, ℕ, Bool, true, false, cond, nat_eq, List, length, take, get_or, refl, sym, ap, subst, arith}
use Rattle.std.specs.List.{sum_by}
use Rattle.std.specs.Cmp.Lexicographic.{pointwise, texts_ties}
use Rattle.std.proofs.lemmas.List.{take_all}
use Rattle.std.proofs.lemmas.List.Sums.{sum_by_more, sum_by_more_le}
use Rattle.std.proofs.lemmas.Bool.Decides.{nat_tests}
use Rattle.kin_ids.specs.declared.ids.User.{User}
use Rattle.kin_ids.specs.Users.{same_user, same_tag}
use Rattle.kin_ids.proofs.Same.{same_user-sym, same_tag-sym}

-- keys are compared as users and as tags are
pub user-test : (u x : User) → nat_eq u.0 x.0 ≡ same_user x u
user-test u x = grind (arith, nat_tests) ∙ same_user-sym u x

pub tag-test : (t x : List ℕ) → pointwise nat_eq t x ≡ same_tag x t
tag-test t x = texts_ties t x ∙ same_tag-sym t x

-- one key's number moves by a step
module _ {K : Type 0} (step : ℕ → ℕ → ℕ) (none : (n : ℕ) → step 0 n ≡ n) (same : K → K → Bool)
    (exact : (x y : K) → same x y ≡ true → x ≡ y) (old new : K → ℕ) (key : K) (by : ℕ) where
  pub one-moved : (test : K → Bool) → ((x : K) → test x ≡ same x key) → (n : ℕ) → n ≡ step by (old key)
      → ((x : K) → new x ≡ cond (test x) n (old x)) → (x : K) → new x ≡ step (cond (same x key) by 0) (old x)
  one-moved test tests n e put x = put x ∙ (ap (λ (b : Bool). cond b n (old x)) (tests x) ∙ by_test (same x key) refl) where
    by_test : (b : Bool) → same x key ≡ b → cond b n (old x) ≡ step (cond b by 0) (old x)
    by_test true t = e ∙ ap (λ (y : K). step by (old y)) (sym (exact x key t))
    by_test false t = sym (none (old x))

-- a list of keys with amounts
module _ {K Y : Type 0} (step : ℕ → ℕ → ℕ) (twice : (a b n : ℕ) → step b (step a n) ≡ step (a + b) n) (same : K → K → Bool) (key : Y → K)
    (amount : Y → ℕ) (ys : List Y) (i : ℕ) (start old new : K → ℕ) where
  abbrev sums : List Y → K → ℕ
  sums zs x = sum_by (λ y. cond (same x (key y)) (amount y) 0) zs

  pub fill-next : (d : Y) → i < length ys → ((x : K) → old x ≡ step (sums (take i ys) x) (start x))
      → ((x : K) → new x ≡ step (cond (same x (key (get_or ys i d))) (amount (get_or ys i d)) 0) (old x))
      → (x : K) → new x ≡ step (sums (take (i + 1) ys) x) (start x)
  fill-next d lt sofar one x =
      one x ∙ (ap (step (cond (same x (key (get_or ys i d))) (amount (get_or ys i d)) 0)) (sofar x)
      ∙ (twice (sums (take i ys) x) (cond (same x (key (get_or ys i d))) (amount (get_or ys i d)) 0) (start x)
      ∙ ap (λ (m : ℕ). step m (start x)) (sym (sum_by_more (λ y. cond (same x (key y)) (amount y) 0) ys i d lt))))

  pub fill-item : (y : Y) → i < length ys → y ≡ get_or ys i y → ((x : K) → old x ≡ step (sums (take i ys) x) (start x))
      → ((x : K) → new x ≡ step (cond (same x (key y)) (amount y) 0) (old x))
      → (x : K) → new x ≡ step (sums (take (i + 1) ys) x) (start x)
  fill-item y lt is sofar one = fill-next y lt sofar (subst (λ (z : Y). (x : K) → new x
      ≡ step (cond (same x (key z)) (amount z) 0) (old x)) is one)

  pub fill-last : length ys ≤ i → ((x : K) → old x ≡ step (sums (take i ys) x) (start x)) → (x : K) → old x ≡ step (sums ys x) (start x)
  fill-last past sofar x = sofar x ∙ ap (λ (zs : List Y). step (sums zs x) (start x)) (take_all i ys past)

-- what deltas have, one after the other
module _ {K D : Type 0} (step : ℕ → ℕ → ℕ) (twice : (a b n : ℕ) → step b (step a n) ≡ step (a + b) n) (more : K → D → ℕ) (ds : List D)
    (i : ℕ) (start old new : K → ℕ) where
  pub all-next : (d : D) → i < length ds → d ≡ get_or ds i d → ((x : K) → old x ≡ step (sum_by (more x) (take i ds)) (start x))
      → ((x : K) → new x ≡ step (more x d) (old x))
      → (x : K) → new x ≡ step (sum_by (more x) (take (i + 1) ds)) (start x)
  all-next d lt is sofar one x =
      one x ∙ (ap (step (more x d)) (sofar x) ∙ (twice (sum_by (more x) (take i ds)) (more x d) (start x)
      ∙ ap (λ (m : ℕ). step m (start x)) (ap (λ (z : D). sum_by (more x) (take i ds) + more x z) is
      ∙ sym (sum_by_more (more x) ds i d lt))))

  pub all-last : length ds ≤ i → ((x : K) → old x ≡ step (sum_by (more x) (take i ds)) (start x)) → (x : K) → old x
      ≡ step (sum_by (more x) ds) (start x)
  all-last past sofar x = sofar x ∙ ap (λ (zs : List D). step (sum_by (more x) zs) (start x)) (take_all i ds past)

-- room that is left in a loop over deltas
module _ {D : Type 0} (f : D → ℕ) (ds : List D) (i : ℕ) (d : D) (lt : i < length ds) (is : d ≡ get_or ds i d) where
  more-items : sum_by f (take (i + 1) ds) ≡ sum_by f (take i ds) + f d
  more-items = sum_by_more f ds i d lt ∙ ap (λ (x : D). sum_by f (take i ds) + f x) (sym is)

  pub room-here : (start old : ℕ) → sum_by f ds ≤ start → start ≤ old + sum_by f (take i ds) → f d ≤ old
  room-here start old all left = let item : f (get_or ds i d) ≡ f d = ap f (sym is) in omega
      (arith, sum_by_more_le f ds i d lt, item, all, left)

  pub room-left : (start old new : ℕ) → start ≤ old + sum_by f (take i ds) → old ≤ new + f d → start ≤ new + sum_by f (take (i + 1) ds)
  room-left start old new left one = omega (arith, more-items, left, one)

pub room-last : {D : Type 0} (f : D → ℕ) (ds : List D) (i : ℕ) → length ds ≤ i → (start old : ℕ) → start ≤ old + sum_by f (take i ds)
    → start ≤ old + sum_by f ds
room-last {D} f ds i past start old left = subst (λ (zs : List D). start ≤ old + sum_by f zs) (take_all i ds past) left
