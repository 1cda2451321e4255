-- What a result is after a change of its columns.
use Rattle.std.proofs.Common.{◌≡◌, ◌<◌, ◌≤◌, ◌+◌, ◌∙◌, ◌==◌, ◌&&◌, ◌||◌, ℕ, zero, suc, Bool, true, false, eqb, ltb, nat_lt, List, [], ◌∷◌, length, get_or, set, map, cond, Option, None, All, arith, refl, sym, ap, subst}
use Rattle.std.specs.List.{AllByRecursion, insert, position_or_len, remove}
use Rattle.std.specs.List.Sorted.{IsStrictlySortedBy}
use Rattle.std.specs.declared.cmp.Ordering.{Ordering}
use Rattle.std.specs.declared.cmp.Ordering.TheVariants.{Less}
use Rattle.std.proofs.lemmas.Bool.Decides.{nat_tests}
use Rattle.std.specs.Map.{lookup}
use Rattle.std.proofs.lemmas.List.{length-map}
use Rattle.std.proofs.lemmas.List.Edits.{length-insert, length-remove, get_or-insert_below, get_or-insert_at, get_or-insert_above, get_or-remove_below, get_or-remove_above}
use Rattle.kin_ids.specs.declared.ids.User.{User}
use Rattle.kin_ids.specs.Users.{user_cmp, tag_cmp, same_user, same_tag, has_user}
use Rattle.kin_rules.specs.declared.numbers.Num.{Num}
use Rattle.kin_rules.specs.declared.numbers.Num.TheVariants as num
use Rattle.kin_rules.specs.declared.numbers.KCount.{KCount}
use Rattle.kin_rules.specs.Places.{place}
use Rattle.kin_rules.specs.Results.{ColumnView, ResultView, IsTabular, AreExposures, has_tag, tag_place, numbers_in, number_in, tag_users_in, expo_in, value_in}
use Rattle.kin_rules.specs.ResultChanges.{AddsUser, SetsNumber, SetsTag, SetsExpo, same_num}
use Rattle.kin_rules.specs.Spots.{StandsAt, WouldStandAt}
use Rattle.kin_rules.proofs.Ascending.{read-insert, read-set, read-remove, one-insert, one-remove}
use Rattle.kin_rules.specs.declared.columns.Column.{Column}
use Rattle.kin_rules.specs.Columns.{AreOf, columns_of, widened}
use Rattle.kin_ids.proofs.Same.{same_user-true, same_tag-true}
use Rattle.kin_rules.proofs.ColumnReads.{past-none, value-widened, column-long}
use Rattle.kin_rules.proofs.KeyOrders.{user_cmp-exact, tag_cmp-exact, place-position}
use Rattle.kin_rules.proofs.ResultReads.{tag-past, no-exposures}

-- ---- numbers

number-set : (us : List User) (ns : List ℕ) (u : User) (i n : ℕ) → StandsAt user_cmp us u i → length ns ≡ length us → (x : User)
    → get_or (set ns i n) (place us x) 0 ≡ cond (same_user x u) n (get_or ns (place us x) 0)
number-set us ns u i n at long x =
    ap (λ (j : ℕ). get_or (set ns i n) j 0) (place-position us x) ∙ ap (λ (j : ℕ). get_or (set ns j n) (position_or_len (same_user x) us) 0) (sym at.place)
    ∙ read-set user_cmp-exact us ns u n x 0 long at.one ∙ ap (λ (j : ℕ). cond (same_user x u) n (get_or ns j 0)) (sym (place-position us x))

-- the numbers under a rule where that of the user at i under one of them is n
abbrev numbers_set : ResultView → Num → ℕ → ℕ → Num → List ℕ
numbers_set r which i n rule = cond (same_num rule which) (set (numbers_in r rule) i n) (numbers_in r rule)

abbrev with_number : ResultView → Num → ℕ → ℕ → ResultView
with_number r which i n = record r {
  ins = numbers_set r which i n num.In;
  outs = numbers_set r which i n num.Out;
  said = numbers_set r which i n num.Said;
  ranks = numbers_set r which i n num.Rank;
}

numbers-long : (r : ResultView) → IsTabular r → (rule : Num) → length (numbers_in r rule) ≡ length r.users
numbers-long r t num.In = t.ins
numbers-long r t num.Out = t.outs
numbers-long r t num.Said = t.said
numbers-long r t num.Rank = t.ranks

numbers-with : (r : ResultView) (which : Num) (i n : ℕ) (rule : Num) → numbers_in (with_number r which i n) rule ≡ numbers_set r which i n rule
numbers-with r which i n num.In = refl
numbers-with r which i n num.Out = refl
numbers-with r which i n num.Said = refl
numbers-with r which i n num.Rank = refl

pub sets-number : (r s : ResultView) → r ≡ s → IsTabular r → (us : List User) → us ≡ r.users → (u : User) (i n : ℕ) → StandsAt user_cmp us u i
    → (rule which : Num) → which ≡ rule → SetsNumber s which u n (with_number r rule i n)
sets-number r s same t us are u i n at rule which is =
    subst (λ (m : Num). SetsNumber s m u n (with_number r rule i n)) (sym is)
    (subst (λ (old : ResultView). SetsNumber old rule u n (with_number r rule i n)) same (record { number = number; rest = refl }))
  where
    number : (other : Num) (x : User) → number_in (with_number r rule i n) other x ≡ cond (same_num other rule && same_user x u) n (number_in r other x)
    number other x = ap (λ (ns : List ℕ). get_or ns (place r.users x) 0) (numbers-with r rule i n other) ∙ here (same_num other rule)
      where
        here : (b : Bool) → get_or (cond b (set (numbers_in r other) i n) (numbers_in r other)) (place r.users x) 0 ≡ cond (b && same_user x u) n (number_in r other x)
        here true = number-set r.users (numbers_in r other) u i n (subst (λ (vs : List User). StandsAt user_cmp vs u i) are at) (numbers-long r t other) x
        here false = refl

-- ---- tags

all-remove : {A : Type 0} (P : A → Type 0) (xs : List A) (i : ℕ) → i < length xs → All P xs → All P (remove xs i)
all-remove P xs i lt all k d less = here (ltb k i) refl
  where
    long : length (remove xs i) + 1 ≡ length xs
    long = length-remove xs i lt

    here : (b : Bool) → ltb k i ≡ b → P (get_or (remove xs i) k d)
    here true e = subst P (sym (get_or-remove_below xs i d k (grind (arith, nat_tests, e)) lt)) (all k d (omega (arith, long, less)))
    here false e = subst P (sym (get_or-remove_above xs i d k (grind (arith, nat_tests, e)) lt)) (all (k + 1) d (omega (arith, long, less)))

all-insert : {A : Type 0} (P : A → Type 0) (xs : List A) (i : ℕ) (x : A) → i ≤ length xs → P x → All P xs → All P (insert xs i x)
all-insert P xs i x le one all k d less = here (ltb k i) refl (eqb k i) refl
  where
    long : length (insert xs i x) ≡ length xs + 1
    long = length-insert xs i x le

    past : (k : ℕ) → i < k → k < length xs + 1 → P (get_or (insert xs i x) k d)
    past zero lt l = absurd (omega (arith, lt))
    past (suc j) lt l = let step : suc j ≡ j + 1 = omega arith in
        subst (λ (m : ℕ). P (get_or (insert xs i x) m d)) (sym step) (subst P (sym (get_or-insert_above xs i x d j (omega (arith, lt)) le)) (all j d (omega (arith, l))))

    here : (a : Bool) → ltb k i ≡ a → (b : Bool) → eqb k i ≡ b → P (get_or (insert xs i x) k d)
    here true e b f = subst P (sym (get_or-insert_below xs i x d k (grind (arith, nat_tests, e)) le)) (all k d (grind (arith, nat_tests, e, le)))
    here false e true f = let same : k ≡ i = grind (arith, nat_tests, f) in
        subst (λ (m : ℕ). P (get_or (insert xs i x) m d)) (sym same) (subst P (sym (get_or-insert_at xs i x d le)) one)
    here false e false f = past k (grind (arith, nat_tests, e, f)) (omega (arith, long, less))

module _ {K : Type 0} (c : K → K → Ordering) where
  recursion-remove : (P : K → Type 0) (ks : List K) (i : ℕ) → AllByRecursion P ks → AllByRecursion P (remove ks i)
  recursion-remove P [] zero all = tt
  recursion-remove P [] (suc i) all = tt
  recursion-remove P (k ∷ ks) zero all = all.1
  recursion-remove P (k ∷ ks) (suc i) all = (all.0, recursion-remove P ks i all.1)

  sorted-remove : (ks : List K) (i : ℕ) → IsStrictlySortedBy c ks → IsStrictlySortedBy c (remove ks i)
  unfolding IsStrictlySortedBy
  sorted-remove [] zero up = tt
  sorted-remove [] (suc i) up = tt
  sorted-remove (k ∷ ks) zero up = up.1
  sorted-remove (k ∷ ks) (suc i) up = (recursion-remove (λ y. c k y ≡ Less) ks i up.0, sorted-remove ks i up.1)

module _ (r : ResultView) (tab : IsTabular r) (t : List ℕ) (i : ℕ) where
  abbrev dropped : ResultView
  dropped = record r { tags = remove r.tags i; tag_users = remove r.tag_users i; expos = remove r.expos i }

  abbrev with_tag : ℕ → ResultView
  with_tag n = record r { tags = insert r.tags i t; tag_users = insert r.tag_users i n; expos = insert r.expos i [] }

  pub drops-tag : StandsAt tag_cmp r.tags t i → SetsTag r t 0 dropped
  drops-tag at = record {
    tags = λ x. ap (λ (j : ℕ). has_tag (remove r.tags j) x) (sym at.place) ∙ one-remove tag_cmp-exact r.tags t x tab.tags at.one;
    number = λ x. ap (λ (j : ℕ). get_or (remove r.tag_users j) (tag_place (remove r.tags j) x) 0) (sym at.place) ∙ read-remove tag_cmp-exact r.tags r.tag_users t x 0 tab.tags tab.tag_users at.one;
    expo = λ x. ap (λ (j : ℕ). get_or (remove r.expos j) (tag_place (remove r.tags j) x) []) (sym at.place) ∙ read-remove tag_cmp-exact r.tags r.expos t x [] tab.tags tab.expos at.one ∙ both (same_tag x t) (expo_in r x);
    rest = refl;
  }
    where
      both : (b : Bool) (l : List KCount) → cond b [] l ≡ cond (b && true) [] l
      both true l = refl
      both false l = refl

  pub dropped-tabular : StandsAt tag_cmp r.tags t i → IsTabular dropped
  dropped-tabular at = record {
    users = tab.users;
    ins = tab.ins;
    outs = tab.outs;
    said = tab.said;
    ranks = tab.ranks;
    hops = tab.hops;
    close = tab.close;
    landmarks = tab.landmarks;
    tags = sorted-remove tag_cmp r.tags i tab.tags;
    tag_users = shorter r.tag_users tab.tag_users;
    expos = shorter r.expos tab.expos;
    in_use = all-remove (λ n. 0 < n) r.tag_users i (within r.tag_users tab.tag_users) tab.in_use;
    exposures = all-remove AreExposures r.expos i (within r.expos tab.expos) tab.exposures;
  }
    where
      within : {V : Type 0} (vs : List V) → length vs ≡ length r.tags → i < length vs
      within vs long = let lt = at.within in omega (arith, long, lt)

      shorter : {V : Type 0} (vs : List V) → length vs ≡ length r.tags → length (remove vs i) ≡ length (remove r.tags i)
      shorter vs long = let a = length-remove vs i (within vs long) in let b = length-remove r.tags i at.within in omega (arith, a, b, long)

  pub puts-tag : (n : ℕ) → 0 < n → WouldStandAt tag_cmp r.tags t i → SetsTag r t n (with_tag n)
  puts-tag n some at = record {
    tags = λ x. one-insert tag_cmp-exact r.tags i t x at.within ∙ in-use (same_tag x t) (has_tag r.tags x);
    number = λ x. read-insert tag_cmp-exact r.tags r.tag_users i t n x 0 tab.tag_users at.within at.none;
    expo = λ x. read-insert tag_cmp-exact r.tags r.expos i t [] x [] tab.expos at.within at.none ∙ stays x (same_tag x t) refl;
    rest = refl;
  }
    where
      in-use : (b h : Bool) → (b || h) ≡ cond b (nat_lt 0 n) h
      in-use true h = grind (arith, nat_tests, some)
      in-use false h = refl

      none-of : n == 0 ≡ false
      none-of = grind (arith, nat_tests, some)

      stays : (x : List ℕ) (b : Bool) → same_tag x t ≡ b → cond b [] (expo_in r x) ≡ cond (b && n == 0) [] (expo_in r x)
      stays x true e = rw none-of (sym (tag-past r.tags r.expos x [] tab.expos (subst (λ (s : List ℕ). has_tag r.tags s ≡ false) (sym (same_tag-true x t e)) at.none)))
      stays x false e = refl

  pub put-tabular : (n : ℕ) → 0 < n → WouldStandAt tag_cmp r.tags t i → IsTabular (with_tag n)
  put-tabular n some at = record {
    users = tab.users;
    ins = tab.ins;
    outs = tab.outs;
    said = tab.said;
    ranks = tab.ranks;
    hops = tab.hops;
    close = tab.close;
    landmarks = tab.landmarks;
    tags = at.ascend;
    tag_users = longer r.tag_users n tab.tag_users;
    expos = longer r.expos [] tab.expos;
    in_use = all-insert (λ m. 0 < m) r.tag_users i n (within r.tag_users tab.tag_users) some tab.in_use;
    exposures = all-insert AreExposures r.expos i [] (within r.expos tab.expos) no-exposures tab.exposures;
  }
    where
      within : {V : Type 0} (vs : List V) → length vs ≡ length r.tags → i ≤ length vs
      within vs long = let le = at.within in omega (arith, long, le)

      longer : {V : Type 0} (vs : List V) (v : V) → length vs ≡ length r.tags → length (insert vs i v) ≡ length (insert r.tags i t)
      longer vs v long = let a = length-insert vs i v (within vs long) in let b = length-insert r.tags i t at.within in omega (arith, a, b, long)

  pub sets-tag : (n : ℕ) → 0 < n → StandsAt tag_cmp r.tags t i → SetsTag r t n (record r { tag_users = set r.tag_users i n })
  sets-tag n some at = record {
    tags = λ x. still x (same_tag x t) refl;
    number = λ x. ap (λ (j : ℕ). get_or (set r.tag_users j n) (tag_place r.tags x) 0) (sym at.place) ∙ read-set tag_cmp-exact r.tags r.tag_users t n x 0 tab.tag_users at.one;
    expo = λ x. stays (same_tag x t) (expo_in r x);
    rest = refl;
  }
    where
      still : (x : List ℕ) (b : Bool) → same_tag x t ≡ b → has_tag r.tags x ≡ cond b (nat_lt 0 n) (has_tag r.tags x)
      still x true e = subst (λ (s : List ℕ). has_tag r.tags s ≡ true) (sym (same_tag-true x t e)) at.one ∙ (let up : true ≡ nat_lt 0 n = grind (arith, nat_tests, some) in up)
      still x false e = refl

      none-of : n == 0 ≡ false
      none-of = grind (arith, nat_tests, some)

      stays : (b : Bool) (l : List KCount) → l ≡ cond (b && n == 0) [] l
      stays true l = rw none-of refl
      stays false l = refl

  pub keeps-none : has_tag r.tags t ≡ false → SetsTag r t 0 r
  keeps-none none = record {
    tags = λ x. here x (same_tag x t) refl;
    number = λ x. number x (same_tag x t) refl;
    expo = λ x. expo x (same_tag x t) refl;
    rest = refl;
  }
    where
      off : (x : List ℕ) → same_tag x t ≡ true → has_tag r.tags x ≡ false
      off x e = subst (λ (s : List ℕ). has_tag r.tags s ≡ false) (sym (same_tag-true x t e)) none

      here : (x : List ℕ) (b : Bool) → same_tag x t ≡ b → has_tag r.tags x ≡ cond b false (has_tag r.tags x)
      here x true e = off x e
      here x false e = refl

      number : (x : List ℕ) (b : Bool) → same_tag x t ≡ b → tag_users_in r x ≡ cond b 0 (tag_users_in r x)
      number x true e = tag-past r.tags r.tag_users x 0 tab.tag_users (off x e)
      number x false e = refl

      expo : (x : List ℕ) (b : Bool) → same_tag x t ≡ b → expo_in r x ≡ cond (b && true) [] (expo_in r x)
      expo x true e = tag-past r.tags r.expos x [] tab.expos (off x e)
      expo x false e = refl

  pub sets-expo : (list : List KCount) → StandsAt tag_cmp r.tags t i → SetsExpo r t list (record r { expos = set r.expos i list })
  sets-expo list at = record {
    expo = λ x. ap (λ (j : ℕ). get_or (set r.expos j list) (tag_place r.tags x) []) (sym at.place) ∙ read-set tag_cmp-exact r.tags r.expos t list x [] tab.expos at.one;
    rest = refl;
  }

-- ---- users

number-put : (us : List User) (ns : List ℕ) (u : User) (i : ℕ) → WouldStandAt user_cmp us u i → length ns ≡ length us → (x : User)
    → get_or (insert ns i 0) (place (insert us i u) x) 0 ≡ get_or ns (place us x) 0
number-put us ns u i at long x =
    ap (λ (j : ℕ). get_or (insert ns i 0) j 0) (place-position (insert us i u) x) ∙ read-insert user_cmp-exact us ns i u 0 x 0 long at.within at.none
    ∙ ap (λ (j : ℕ). cond (same_user x u) 0 (get_or ns j 0)) (sym (place-position us x)) ∙ here (same_user x u) refl
  where
    here : (b : Bool) → same_user x u ≡ b → cond b 0 (get_or ns (place us x) 0) ≡ get_or ns (place us x) 0
    here true e = sym (past-none us ns x 0 long (subst (λ (y : User). has_user us y ≡ false) (sym (same_user-true x u e)) at.none))
    here false e = refl

nobody : (a b : Bool) (p q : ℕ) → cond a (get_or {A = Option ℕ} [] p None) None ≡ cond b (get_or {A = Option ℕ} [] q None) None
nobody true true p q = refl
nobody true false p q = refl
nobody false true p q = refl
nobody false false p q = refl

values-put : (us : List User) (cs : List ColumnView) (u : User) (i : ℕ) → WouldStandAt user_cmp us u i → All (λ (c : ColumnView). length c.values ≡ length us) cs → (j : ℕ) (x : User)
    → value_in (insert us i u) (map (widened i u) cs) j x ≡ value_in us cs j x
values-put us [] u i at all j x = nobody (has_user (insert us i u) x) (has_user us x) (place (insert us i u) x) (place us x)
values-put us (c ∷ cs) u i at all zero x = value-widened us c u i at (all 0 c (omega arith)) x
values-put us (c ∷ cs) u i at all (suc j) x = values-put us cs u i at (λ k d lt. all (suc k) d (omega (arith, lt))) j x

all-widened : (us : List User) (cs : List ColumnView) (u : User) (i : ℕ) → i ≤ length us → All (λ (c : ColumnView). length c.values ≡ length us) cs
    → All (λ (c : ColumnView). length c.values ≡ length (insert us i u)) (map (widened i u) cs)
all-widened us [] u i le all = λ k d lt. absurd (omega (arith, lt))
all-widened us (c ∷ cs) u i le all = each (all-widened us cs u i le (λ m e less. all (suc m) e (omega (arith, less))))
  where
    each : All (λ (d : ColumnView). length d.values ≡ length (insert us i u)) (map (widened i u) cs)
        → (k : ℕ) (d : ColumnView) → k < length (map (widened i u) (c ∷ cs)) → length (get_or (map (widened i u) (c ∷ cs)) k d).values ≡ length (insert us i u)
    each rest zero d lt = let long = all 0 c (omega arith) in
        let a = length-insert c.values i (lookup (same_user u) c.others) (omega (arith, long, le)) in let b = length-insert us i u le in omega (arith, a, b, long)
    each rest (suc k) d lt = rest k d (omega (arith, lt))

module _ (r : ResultView) (tab : IsTabular r) (u : User) (i : ℕ) (at : WouldStandAt user_cmp r.users u i) where
  abbrev with_member : ResultView
  with_member = record r {
    users = insert r.users i u;
    ins = insert r.ins i 0;
    outs = insert r.outs i 0;
    said = insert r.said i 0;
    ranks = insert r.ranks i 0;
    hops = map (widened i u) r.hops;
    close = map (widened i u) r.close;
  }

  pub adds-user : AddsUser r u with_member
  adds-user = record {
    users = λ x. one-insert user_cmp-exact r.users i u x at.within ∙ flip (same_user x u) (has_user r.users x);
    numbers = numbers;
    hops = values-put r.users r.hops u i at tab.hops;
    close = values-put r.users r.close u i at tab.close;
    landmarks = length-map r.hops (widened i u);
    tags = (refl, refl, refl);
    epoch = refl;
  }
    where
      flip : (a b : Bool) → (a || b) ≡ (b || a)
      flip true true = refl
      flip true false = refl
      flip false true = refl
      flip false false = refl

      numbers : (which : Num) (x : User) → number_in with_member which x ≡ number_in r which x
      numbers num.In x = number-put r.users r.ins u i at tab.ins x
      numbers num.Out x = number-put r.users r.outs u i at tab.outs x
      numbers num.Said x = number-put r.users r.said u i at tab.said x
      numbers num.Rank x = number-put r.users r.ranks u i at tab.ranks x

  pub added-tabular : IsTabular with_member
  added-tabular = record {
    tags = tab.tags;
    tag_users = tab.tag_users;
    expos = tab.expos;
    in_use = tab.in_use;
    exposures = tab.exposures;
    users = at.ascend;
    ins = longer r.ins tab.ins;
    outs = longer r.outs tab.outs;
    said = longer r.said tab.said;
    ranks = longer r.ranks tab.ranks;
    hops = all-widened r.users r.hops u i at.within tab.hops;
    close = all-widened r.users r.close u i at.within tab.close;
    landmarks = length-map r.close (widened i u) ∙ tab.landmarks ∙ sym (length-map r.hops (widened i u));
  }
    where
      longer : (vs : List ℕ) → length vs ≡ length r.users → length (insert vs i 0) ≡ length (insert r.users i u)
      longer vs long = let le = at.within in let a = length-insert vs i 0 (omega (arith, long, le)) in let b = length-insert r.users i u le in omega (arith, a, b, long)

-- columns of so many users have room for a place among them
pub within-all : (cs : List Column) (n i : ℕ) → AreOf n (columns_of cs) → i ≤ n → All (λ (c : Column). i ≤ length c.values.items) cs
within-all cs n i all le k d lt = let long = column-long cs n k d all lt in omega (arith, long, le)

-- ---- of what the result was

pub tag-moved : (r s new : ResultView) (t : List ℕ) (n m : ℕ) → r ≡ s → n ≡ m → SetsTag r t m new → SetsTag s t n new
tag-moved r s new t n m e w h = subst (λ (x : ℕ). SetsTag s t x new) (sym w) (subst (λ (x : ResultView). SetsTag x t m new) e h)

pub expo-moved : (r s new : ResultView) (t : List ℕ) (list : List KCount) → r ≡ s → SetsExpo r t list new → SetsExpo s t list new
expo-moved r s new t list e h = subst (λ (x : ResultView). SetsExpo x t list new) e h

pub user-moved : (r s new : ResultView) (u : User) → r ≡ s → AddsUser r u new → AddsUser s u new
user-moved r s new u e h = subst (λ (x : ResultView). AddsUser x u new) e h
