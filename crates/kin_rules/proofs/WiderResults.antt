-- A result whose columns are over more users, or over other tags.
use Rattle.std.proofs.Common.{◌≡◌, ◌<◌, ◌≤◌, ◌∙◌, ltb, ℕ, zero, suc, Bool, true, false, eqb, List, [], ◌∷◌, length, get_or, map, cond, Option, None, All, arith, refl, sym, ap, subst}
use Rattle.std.specs.List.Sorted.{IsStrictlySortedBy}
use Rattle.std.specs.Map.{lookup}
use Rattle.std.proofs.lemmas.Bool.{both_ways}
use Rattle.std.proofs.lemmas.Bool.Decides.{nat_tests}
use Rattle.std.proofs.lemmas.List.{get_or_default, length-map, get_or-map}
use Rattle.kin_ids.specs.declared.ids.User.{User}
use Rattle.kin_ids.specs.Users.{user_cmp, tag_cmp, same_user, has_user}
use Rattle.kin_ids.proofs.Same.{same_user-true}
use Rattle.kin_rules.specs.declared.numbers.Num.{Num}
use Rattle.kin_rules.specs.declared.numbers.Num.TheVariants as num
use Rattle.kin_rules.specs.declared.numbers.KCount.{KCount}
use Rattle.kin_rules.specs.Columns.{columns_of, over_users}
use Rattle.kin_rules.specs.declared.columns.Column.{Column}
use Rattle.kin_rules.specs.Places.{place}
use Rattle.kin_rules.specs.Results.{AreExposures, ColumnView, IsTabular, ResultView, has_tag, no_column, number_in, tag_place, value_in, value_of}
use Rattle.kin_rules.specs.ResultChanges.{IsWider}
use Rattle.kin_rules.proofs.Ascending.{found-there, read-map}
use Rattle.kin_rules.proofs.ColumnReads.{past-none, place-at}
use Rattle.kin_rules.proofs.KeyOrders.{tag_cmp-exact, user_cmp-exact}
use Rattle.kin_rules.proofs.Places.{has-is, map-place, same-number}
use Rattle.kin_rules.proofs.ResultReads.{no-exposures, sorted-nil, tag-past}

-- ---- users

-- the value of a user that has a place among the users, and of one that has none
pub value-within : (us : List User) (c : ColumnView) (u : User) (i : ℕ) → length c.values ≡ length us → i ≡ place us u → i < length c.values → get_or c.values i None ≡ value_of us c u
value-within us c u i long is lt =
    let one : has_user us u ≡ true = sym (has-is us u) ∙ (let t : ltb (place us u) (length us) ≡ true = grind (arith, nat_tests, long, is, lt) in t) in
    rw one (ap (λ (n : ℕ). get_or c.values n None) is)

pub value-past : (us : List User) (c : ColumnView) (u : User) (i : ℕ) → length c.values ≡ length us → i ≡ place us u → length c.values ≤ i → lookup (same_user u) c.others ≡ value_of us c u
value-past us c u i long is le =
    let none : has_user us u ≡ false = sym (has-is us u) ∙ (let t : ltb (place us u) (length us) ≡ false = grind (arith, nat_tests, long, is, le) in t) in
    rw none refl

-- a user that stands at a place that was guessed
pub place-guessed : (us : List User) (i : ℕ) (d u : User) → IsStrictlySortedBy user_cmp us → i < length us → true ≡ eqb (get_or us i d).0 u.0 → i ≡ place us u
place-guessed us i d u up lt same =
    let is : get_or us i d ≡ u = same_user-true (get_or us i d) u (sym (same-number (get_or us i d) u) ∙ sym same) in
    sym (place-at us u i (found-there user_cmp-exact us u i up lt (get_or_default us i u d lt ∙ is)))

module _ (old users : List User) (all : (u : User) → has_user old u ≡ true → has_user users u ≡ true) where
  -- who is none of the users was none of the old ones
  none-before : (x : User) → has_user users x ≡ false → has_user old x ≡ false
  none-before x none = here (has_user old x) refl
    where
      here : (b : Bool) → has_user old x ≡ b → b ≡ false
      here true e = absurd (both_ways (has_user users x) none (all x e))
      here false e = refl

  pub number-over : (ns : List ℕ) → length ns ≡ length old → (x : User)
      → get_or (map (λ (i : ℕ). get_or ns i 0) (map (place old) users)) (place users x) 0 ≡ get_or ns (place old x) 0
  number-over ns long x = here (has_user users x) refl
    where
      twice : (us : List User) → map (λ (i : ℕ). get_or ns i 0) (map (place old) us) ≡ map (λ (u : User). get_or ns (place old u) 0) us
      twice [] = refl
      twice (u ∷ us) = ap (λ (l : List ℕ). get_or ns (place old u) 0 ∷ l) (twice us)

      here : (b : Bool) → has_user users x ≡ b → get_or (map (λ (i : ℕ). get_or ns i 0) (map (place old) users)) (place users x) 0 ≡ get_or ns (place old x) 0
      here true e = ap (λ (l : List ℕ). get_or l (place users x) 0) (twice users) ∙ map-place (λ (u : User). get_or ns (place old u) 0) users x 0 e
      here false e = ap (λ (l : List ℕ). get_or l (place users x) 0) (twice users)
          ∙ past-none users (map (λ (u : User). get_or ns (place old u) 0) users) x 0 (length-map users (λ (u : User). get_or ns (place old u) 0)) e
          ∙ sym (past-none old ns x 0 long (none-before x e))

  value-over : (c : ColumnView) (x : User) → value_of users (over_users old users c) x ≡ value_of old c x
  value-over c x = here (has_user users x) refl
    where
      here : (b : Bool) → has_user users x ≡ b → value_of users (over_users old users c) x ≡ value_of old c x
      here true e = rw e (map-place (value_of old c) users x None e)
      here false e = rw (e, none-before x e) refl

  values-over : (cs : List ColumnView) (i : ℕ) (x : User) → value_in users (map (over_users old users) cs) i x ≡ value_in old cs i x
  values-over [] i x = value-none (has_user users x) (has_user old x) (place users x) (place old x)
    where
      value-none : (a b : Bool) (p q : ℕ) → cond a (get_or {A = Option ℕ} [] p None) None ≡ cond b (get_or {A = Option ℕ} [] q None) None
      value-none true true p q = refl
      value-none true false p q = refl
      value-none false true p q = refl
      value-none false false p q = refl
  values-over (c ∷ cs) zero x = value-over c x
  values-over (c ∷ cs) (suc i) x = values-over cs i x

  others-over : (cs : List ColumnView) (i : ℕ) → (get_or (map (over_users old users) cs) i no_column).others ≡ (get_or cs i no_column).others
  others-over [] i = refl
  others-over (c ∷ cs) zero = refl
  others-over (c ∷ cs) (suc i) = others-over cs i

  all-over : (cs : List ColumnView) → All (λ (c : ColumnView). length c.values ≡ length users) (map (over_users old users) cs)
  all-over cs k d lt =
      ap (λ (c : ColumnView). length c.values) (get_or-map (over_users old users) cs k no_column d (let e = length-map cs (over_users old users) in omega (arith, e, lt)))
      ∙ length-map users (value_of old (get_or cs k no_column))

-- the numbers of a result at the places of these users among its own
abbrev pub moved : List User → List User → List ℕ → List ℕ
moved old users ns = map (λ (i : ℕ). get_or ns i 0) (map (place old) users)

-- the same lists, met under other names
pub moved-is : (old users o n : List User) (ns m places at new : List ℕ) → o ≡ old → n ≡ users → m ≡ ns → places ≡ map (place o) n → at ≡ places → new ≡ map (λ (i : ℕ). get_or m i 0) at
    → new ≡ moved old users ns
moved-is old users o n ns m places at new oe ne me pe ae is =
    is ∙ ap (λ (l : List ℕ). map (λ (i : ℕ). get_or l i 0) at) me
    ∙ ap (map (λ (i : ℕ). get_or ns i 0)) (ae ∙ pe ∙ ap (λ (l : List User). map (place l) n) oe ∙ ap (map (place old)) ne)

pub over-is : (old users o n : List User) (cs : List ColumnView) (columns new : List Column) → o ≡ old → n ≡ users → columns_of columns ≡ cs
    → columns_of new ≡ map (over_users o n) (columns_of columns) → columns_of new ≡ map (over_users old users) cs
over-is old users o n cs columns new oe ne ce is =
    is ∙ ap (λ (l : List User). map (over_users l n) (columns_of columns)) oe ∙ ap (λ (l : List User). map (over_users old l) (columns_of columns)) ne ∙ ap (map (over_users old users)) ce

-- the user columns over these users, and no tag
abbrev pub wide : ResultView → List User → ResultView
wide r users = record {
  epoch = r.epoch;
  users = users;
  ins = moved r.users users r.ins;
  outs = moved r.users users r.outs;
  said = moved r.users users r.said;
  ranks = moved r.users users r.ranks;
  tags = [];
  tag_users = [];
  expos = [];
  hops = map (over_users r.users users) r.hops;
  close = map (over_users r.users users) r.close;
}

module _ (r : ResultView) (tab : IsTabular r) (users : List User) (up : IsStrictlySortedBy user_cmp users) (all : (u : User) → has_user r.users u ≡ true → has_user users u ≡ true) where
  pub wide-tabular : IsTabular (wide r users)
  wide-tabular = record {
    users = up;
    ins = long r.ins;
    outs = long r.outs;
    said = long r.said;
    ranks = long r.ranks;
    tags = sorted-nil tag_cmp;
    tag_users = refl;
    expos = refl;
    in_use = λ k d lt. absurd (omega (arith, lt));
    exposures = λ k d lt. absurd (omega (arith, lt));
    hops = all-over r.users users all r.hops;
    close = all-over r.users users all r.close;
    landmarks = length-map r.close (over_users r.users users) ∙ tab.landmarks ∙ sym (length-map r.hops (over_users r.users users));
  }
    where
      long : (ns : List ℕ) → length (moved r.users users ns) ≡ length users
      long ns = length-map (map (place r.users) users) (λ (i : ℕ). get_or ns i 0) ∙ length-map users (place r.users)

  pub is-wider : IsWider r users (wide r users)
  is-wider = record {
    users = refl;
    numbers = numbers;
    hops = values-over r.users users all r.hops;
    close = values-over r.users users all r.close;
    landmarks = length-map r.hops (over_users r.users users);
    epoch = refl;
    plain_hops = others-over r.users users all r.hops;
    plain_close = others-over r.users users all r.close;
  }
    where
      numbers : (which : Num) (x : User) → number_in (wide r users) which x ≡ number_in r which x
      numbers num.In x = number-over r.users users all r.ins tab.ins x
      numbers num.Out x = number-over r.users users all r.outs tab.outs x
      numbers num.Said x = number-over r.users users all r.said tab.said x
      numbers num.Rank x = number-over r.users users all r.ranks tab.ranks x

pub wider-moved : (r s new : ResultView) (users : List User) → r ≡ s → IsWider r users new → IsWider s users new
wider-moved r s new users e h = subst (λ (x : ResultView). IsWider x users new) e h

-- ---- tags

-- the exposures of these tags, none for one that isn't among the old ones
abbrev pub lists : List (List ℕ) → List (List KCount) → List (List ℕ) → List (List KCount)
lists old expos tags = map (λ (t : List ℕ). get_or expos (tag_place old t) []) tags

pub expo-over : (old : List (List ℕ)) (expos : List (List KCount)) (tags : List (List ℕ)) (t : List ℕ)
    → get_or (lists old expos tags) (tag_place tags t) [] ≡ cond (has_tag tags t) (get_or expos (tag_place old t) []) []
expo-over old expos tags t = here (has_tag tags t) refl
  where
    f : List ℕ → List KCount
    f s = get_or expos (tag_place old s) []

    here : (b : Bool) → has_tag tags t ≡ b → get_or (lists old expos tags) (tag_place tags t) [] ≡ cond b (get_or expos (tag_place old t) []) []
    here true e = read-map tag_cmp-exact (λ (s : List ℕ). get_or expos (tag_place old s) []) tags t [] e
    here false e = tag-past tags (lists old expos tags) t [] (length-map tags (λ (s : List ℕ). get_or expos (tag_place old s) [])) e

all-lists : (old : List (List ℕ)) (expos : List (List KCount)) (tags : List (List ℕ)) → All AreExposures expos → All AreExposures (lists old expos tags)
all-lists old expos tags all k d lt =
    subst AreExposures (sym (get_or-map (λ (t : List ℕ). get_or expos (tag_place old t) []) tags k [] d (let e = length-map tags (λ (t : List ℕ). get_or expos (tag_place old t) []) in omega (arith, e, lt))))
    (at expos all (tag_place old (get_or tags k [])))
  where
    at : (es : List (List KCount)) → All AreExposures es → (i : ℕ) → AreExposures (get_or es i [])
    at [] all i = no-exposures
    at (e ∷ es) all zero = all 0 [] (omega arith)
    at (e ∷ es) all (suc i) = at es (λ j d lt. all (suc j) d (omega (arith, lt))) i

pub lists-is : (old tags o n : List (List ℕ)) (expos es new : List (List KCount)) → o ≡ old → n ≡ tags → es ≡ expos
    → new ≡ map (λ (t : List ℕ). get_or es (tag_place o t) []) n → new ≡ lists old expos tags
lists-is old tags o n expos es new oe ne ee is =
    is ∙ ap (λ (l : List (List ℕ)). map (λ (t : List ℕ). get_or es (tag_place l t) []) n) oe ∙ ap (λ (l : List (List KCount)). map (λ (t : List ℕ). get_or l (tag_place old t) []) n) ee
    ∙ ap (lists old expos) ne

-- nobody, and these tags
abbrev pub tags_alone : ℕ → List (List ℕ) → List ℕ → List (List KCount) → ResultView
tags_alone epoch tags numbers expos = record { epoch = epoch; users = []; ins = []; outs = []; said = []; ranks = []; tags = tags; tag_users = numbers; expos = expos; hops = []; close = [] }

pub tagged-tabular : (epoch : ℕ) (old : List (List ℕ)) (expos : List (List KCount)) (tags : List (List ℕ)) (numbers : List ℕ) → All AreExposures expos
    → IsStrictlySortedBy tag_cmp tags → length numbers ≡ length tags → All (λ n. 0 < n) numbers → IsTabular (tags_alone epoch tags numbers (lists old expos tags))
tagged-tabular epoch old expos tags numbers all up long some = record {
  users = sorted-nil user_cmp;
  ins = refl;
  outs = refl;
  said = refl;
  ranks = refl;
  tags = up;
  tag_users = long;
  expos = length-map tags (λ (t : List ℕ). get_or expos (tag_place old t) []);
  in_use = some;
  exposures = all-lists old expos tags all;
  hops = λ k d lt. absurd (omega (arith, lt));
  close = λ k d lt. absurd (omega (arith, lt));
  landmarks = refl;
}
