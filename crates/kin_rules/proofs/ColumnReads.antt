-- What is read in columns over the users.
use Rattle.std.proofs.Common.{◌≡◌, ◌<◌, ◌≤◌, ◌+◌, ◌++◌, take, drop, ◌∙◌, ◌||◌, ◌&&◌, ℕ, Bool, true, false, eqb, List, length, get_or, set, map, cond, Option, None, Result, Ok, Err, OnErr, arith, refl, sym, ap, subst}
use Rattle.std.specs.List.{insert, position_or_len}
use Rattle.std.specs.Map.{lookup}
use Rattle.std.proofs.lemmas.Bool.{both_ways}
use Rattle.std.proofs.lemmas.Bool.Decides.{nat_tests}
use Rattle.std.proofs.lemmas.List.{get_or-map, length-map, get_or-set_same, get_or-set_other, map-set, length-set}
use Rattle.std.proofs.Math.Seq.{map-set_same}
use Rattle.std.proofs.lemmas.List.Edits.{map_over_more}
use Rattle.kin_ids.specs.declared.ids.User.{User}
use Rattle.kin_ids.specs.Users.{user_cmp, same_user, has_user}
use Rattle.kin_ids.proofs.Same.{same_user-true, same_user-sym}
use Rattle.kin_rules.specs.declared.columns.Column.{Column}
use Rattle.kin_rules.specs.Places.{place}
use Rattle.kin_rules.specs.Results.{ColumnView, no_column, value_of}
use Rattle.kin_rules.specs.Columns.{column_of, columns_of, AreOf, widened, SetsValue, SetsValueIn}
use Rattle.kin_rules.specs.Spots.{StandsAt, WouldStandAt}
use Rattle.kin_rules.proofs.Ascending.{read-insert, read-none, read-set, one-insert}
use Rattle.kin_rules.proofs.KeyOrders.{user_cmp-exact, place-position}

-- a user that stands at a place
pub place-at : (us : List User) (u : User) (i : ℕ) → StandsAt user_cmp us u i → place us u ≡ i
place-at us u i at = place-position us u ∙ at.place

-- a user that is none of them has the default
pub past-none : {V : Type 0} (us : List User) (vs : List V) (u : User) (d : V) → length vs ≡ length us → has_user us u ≡ false → get_or vs (place us u) d ≡ d
past-none us vs u d long none = ap (λ (n : ℕ). get_or vs n d) (place-position us u) ∙ read-none user_cmp-exact us vs u d long none

pub value-there : (us : List User) (c : ColumnView) (u : User) (i : ℕ) → StandsAt user_cmp us u i → get_or c.values i None ≡ value_of us c u
value-there us c u i at = rw at.one (ap (λ (n : ℕ). get_or c.values n None) (sym (place-at us u i at)))

pub value-away : (us : List User) (c : ColumnView) (u : User) → has_user us u ≡ false → lookup (same_user u) c.others ≡ value_of us c u
value-away us c u none = rw none refl

-- who is one of them is another than who isn't
apart : (us : List User) (u x : User) → has_user us u ≡ false → has_user us x ≡ true → same_user x u ≡ false
apart us u x none one = here (same_user x u) refl
  where
    here : (b : Bool) → same_user x u ≡ b → b ≡ false
    here true e = absurd (both_ways (has_user us u) none (subst (λ (y : User). has_user us y ≡ true) (same_user-true x u e) one))
    here false e = refl

pub set-there : (us : List User) (c : ColumnView) (u : User) (i : ℕ) (v : Option ℕ) → StandsAt user_cmp us u i → length c.values ≡ length us
    → SetsValue us c u v (record c { values = set c.values i v })
set-there us c u i v at long x = here (has_user us x) refl
  where
    here : (b : Bool) → has_user us x ≡ b → value_of us (record c { values = set c.values i v }) x ≡ cond (same_user x u) v (value_of us c x)
    here true e = rw e (ap (λ (n : ℕ). get_or (set c.values n v) (place us x) None) (sym at.place) ∙ ap (λ (n : ℕ). get_or (set c.values (position_or_len (same_user u) us) v) n None) (place-position us x)
        ∙ read-set user_cmp-exact us c.values u v x None long at.one ∙ ap (λ (n : ℕ). cond (same_user x u) v (get_or c.values n None)) (sym (place-position us x)))
    here false e = let off : same_user x u ≡ false = sym-apart (apart us x u e at.one) in rw (e, off) refl
      where
        sym-apart : same_user u x ≡ false → same_user x u ≡ false
        sym-apart h = same_user-sym x u ∙ h

pub set-away : (us : List User) (c : ColumnView) (u : User) (v : Option ℕ) (others : List (User × ℕ)) → has_user us u ≡ false
    → ((x : User) → lookup (same_user x) others ≡ cond (same_user u x) v (lookup (same_user x) c.others)) → SetsValue us c u v (record c { others = others })
set-away us c u v others none is x = here (has_user us x) refl
  where
    here : (b : Bool) → has_user us x ≡ b → value_of us (record c { others = others }) x ≡ cond (same_user x u) v (value_of us c x)
    here true e = let off : same_user x u ≡ false = apart us u x none e in rw (e, off) refl
    here false e = rw e (is x ∙ ap (λ (b : Bool). cond b v (lookup (same_user x) c.others)) (same_user-sym u x))

-- one more user, whose value stays
pub value-widened : (us : List User) (c : ColumnView) (u : User) (i : ℕ) → WouldStandAt user_cmp us u i → length c.values ≡ length us
    → (x : User) → value_of (insert us i u) (widened i u c) x ≡ value_of us c x
value-widened us c u i at long x = here (same_user x u) refl (has_user us x) refl
  where
    one : has_user (insert us i u) x ≡ (same_user x u || has_user us x)
    one = one-insert user_cmp-exact us i u x at.within

    reads : get_or (insert c.values i (lookup (same_user u) c.others)) (place (insert us i u) x) None ≡ cond (same_user x u) (lookup (same_user u) c.others) (get_or c.values (place us x) None)
    reads = ap (λ (n : ℕ). get_or (insert c.values i (lookup (same_user u) c.others)) n None) (place-position (insert us i u) x)
        ∙ read-insert user_cmp-exact us c.values i u (lookup (same_user u) c.others) x None long at.within at.none
        ∙ ap (λ (n : ℕ). cond (same_user x u) (lookup (same_user u) c.others) (get_or c.values n None)) (sym (place-position us x))

    here : (a : Bool) → same_user x u ≡ a → (b : Bool) → has_user us x ≡ b → value_of (insert us i u) (widened i u c) x ≡ value_of us c x
    here true ea b eb =
        let off : has_user us x ≡ false = subst (λ (y : User). has_user us y ≡ false) (sym (same_user-true x u ea)) at.none in
        rw (one, reads, ea, off) (ap (λ (y : User). lookup (same_user y) c.others) (sym (same_user-true x u ea)))
    here false ea true eb = rw (one, reads, ea, eb) refl
    here false ea false eb = rw (one, ea, eb) refl

-- ---- the column of a number

pub column-at : (cs : List Column) (i : ℕ) (d : Column) → i < length cs → get_or (columns_of cs) i no_column ≡ column_of (get_or cs i d)
column-at cs i d lt = get_or-map column_of cs i d no_column lt

pub columns-set : (cs : List Column) (i : ℕ) (c : Column) → columns_of (set cs i c) ≡ set (columns_of cs) i (column_of c)
columns-set cs i c = map-set column_of cs i c

-- a write of one column changes the values there
pub set-in : (us : List User) (cs : List ColumnView) (i : ℕ) (c : ColumnView) (u : User) (v : Option ℕ) → i < length cs → SetsValue us (get_or cs i no_column) u v c → SetsValueIn us cs i u v (set cs i c)
set-in us cs i c u v lt sets j x = here (eqb j i) refl
  where
    here : (b : Bool) → eqb j i ≡ b → value_of us (get_or (set cs i c) j no_column) x ≡ cond (b && same_user x u) v (value_of us (get_or cs j no_column) x)
    here true e = let same : j ≡ i = grind (arith, nat_tests, e) in
        subst (λ (k : ℕ). value_of us (get_or (set cs i c) k no_column) x ≡ cond (same_user x u) v (value_of us (get_or cs k no_column) x)) (sym same)
        (ap (λ (z : ColumnView). value_of us z x) (get_or-set_same cs i c no_column lt) ∙ sets x)
    here false e = ap (λ (z : ColumnView). value_of us z x) (get_or-set_other cs i j c no_column (λ (k : j ≡ i). grind (arith, nat_tests, e, k)))

pub column-long : (cs : List Column) (n i : ℕ) (d : Column) → AreOf n (columns_of cs) → i < length cs → length (get_or cs i d).values.items ≡ n
column-long cs n i d all lt = ap (λ (c : ColumnView). length c.values) (sym (get_or-map column_of cs i d (column_of d) lt)) ∙ all i (column_of d) (rw (length-map cs column_of) lt)

pub long-set : (cs : List Column) (n i : ℕ) (c : Column) → AreOf n (columns_of cs) → length c.values.items ≡ n → AreOf n (columns_of (set cs i c))
long-set cs n i c all long k d lt = here (eqb k i) refl
  where
    within : k < length (columns_of cs)
    within = let a = length-map cs column_of in let b = length-map (set cs i c) column_of in let e = length-set cs i c in omega (arith, a, b, e, lt)

    here : (b : Bool) → eqb k i ≡ b → length (get_or (columns_of (set cs i c)) k d).values ≡ n
    here true e = let same : k ≡ i = grind (arith, nat_tests, e) in
        ap (λ (l : List ColumnView). length (get_or l k d).values) (columns-set cs i c)
        ∙ subst (λ (m : ℕ). length (get_or (set (columns_of cs) i (column_of c)) m d).values ≡ n) (sym same)
        (ap (λ (z : ColumnView). length z.values) (get_or-set_same (columns_of cs) i (column_of c) d (subst (λ (m : ℕ). m < length (columns_of cs)) same within)) ∙ long)
    here false e = ap (λ (l : List ColumnView). length (get_or l k d).values) (columns-set cs i c)
        ∙ ap (λ (z : ColumnView). length z.values) (get_or-set_other (columns_of cs) i k (column_of c) d (λ (q : k ≡ i). grind (arith, nat_tests, e, q))) ∙ all k d within

-- a write that changes what no column shows
pub same-set : (cs : List Column) (i : ℕ) (c d : Column) → column_of c ≡ column_of (get_or cs i d) → columns_of (set cs i c) ≡ columns_of cs
same-set cs i c d e = map-set_same column_of cs i c d e

-- a write of one column, which changes the value of a user there
pub set-column : (us : List User) (cs : List Column) (i : ℕ) (c d : Column) (u : User) (v : Option ℕ) → i < length cs → SetsValue us (column_of (get_or cs i d)) u v (column_of c)
    → SetsValueIn us (columns_of cs) i u v (columns_of (set cs i c))
set-column us cs i c d u v lt sets =
    subst (λ (l : List ColumnView). SetsValueIn us (columns_of cs) i u v l) (sym (columns-set cs i c))
    (set-in us (columns_of cs) i (column_of c) u v (rw (length-map cs column_of) lt) (subst (λ (z : ColumnView). SetsValue us z u v (column_of c)) (sym (column-at cs i d lt)) sets))

-- a loop that writes at each place what has a property
pub below-set : {X : Type 0} (P : X → Type 0) (xs : List X) (i : ℕ) (x : X) → i < length xs → ((k : ℕ) (d : X) → k < i → P (get_or xs k d)) → P x
    → (k : ℕ) (d : X) → k < i + 1 → P (get_or (set xs i x) k d)
below-set P xs i x lt below here k d less = cases (eqb k i) refl
  where
    cases : (b : Bool) → eqb k i ≡ b → P (get_or (set xs i x) k d)
    cases true e = let same : k ≡ i = grind (arith, nat_tests, e) in subst (λ (m : ℕ). P (get_or (set xs i x) m d)) (sym same) (subst P (sym (get_or-set_same xs i x d lt)) here)
    cases false e = subst P (sym (get_or-set_other xs i k x d (λ (q : k ≡ i). grind (arith, nat_tests, e, q)))) (below k d (grind (arith, nat_tests, e, less)))

-- a loop that changes each column in turn
pub step-over : (f : ColumnView → ColumnView) (old cs : List Column) (i : ℕ) (c d : Column) → i < length cs → length cs ≡ length old
    → columns_of cs ≡ map f (take i (columns_of old)) ++ drop i (columns_of old) → column_of c ≡ f (column_of (get_or cs i d))
    → columns_of (set cs i c) ≡ map f (take (i + 1) (columns_of old)) ++ drop (i + 1) (columns_of old)
step-over f old cs i c d lt long was is =
    columns-set cs i c ∙ ap (λ (z : ColumnView). set (columns_of cs) i z) is
    ∙ map_over_more f (columns_of old) (columns_of cs) i (column_of (get_or cs i d)) (rw (length-map old column_of) (omega (arith, lt, long))) was (sym (get_or-map column_of cs i d (column_of (get_or cs i d)) lt))

pub others-set : (old cs : List Column) (i : ℕ) (c : Column) → ((k : ℕ) (d : Column) → i ≤ k → get_or cs k d ≡ get_or old k d) → (k : ℕ) (d : Column) → i + 1 ≤ k → get_or (set cs i c) k d ≡ get_or old k d
others-set old cs i c same k d le = get_or-set_other cs i k c d (λ (q : k ≡ i). omega (arith, q, le)) ∙ same k d (omega (arith, le))

pub on-err : {A E : Type 0} (r : Result A E) (P : Type 0) → P → OnErr r P
on-err (Ok a) P p = tt
on-err (Err e) P p = p
