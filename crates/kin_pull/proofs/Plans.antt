-- Steps of a plan, and what it begins.
use Rattle.std.proofs.Common.{◌≡◌, ◌<◌, ◌≤◌, ◌+◌, ◌-◌, ◌∙◌, ◌||◌, ◌&&◌, not, nat_lt, add-one, ℕ, zero, suc, Bool, true, false, cond, List}
use Rattle.std.proofs.Common.{[], ◌∷◌, ◌++◌, map, filter, length, get_or, set, take, Option, Some, None, is_some, unwrap_or, if◌then◌else◌}
use Rattle.std.proofs.Common.{arith, refl, sym, ap, ap₂, subst}
use Rattle.std.specs.List.{sum_by}
use Rattle.std.specs.List.Sorted.{IsStrictlySortedBy}
use Rattle.std.proofs.Math.Bool.{or-false}
use Rattle.std.proofs.lemmas.Bool.{both_ways}
use Rattle.std.proofs.lemmas.Bool.Decides.{nat_tests}
use Rattle.std.proofs.lemmas.List.{append-nil, append_assoc, get_or_default, get_or-set_same, get_or-set_other, get_or_append_left, get_or_past}
use Rattle.std.proofs.lemmas.List.{get_or_push, length-map, length_push, map-append, take_more}
use Rattle.std.proofs.lemmas.List.Sums.{sum_by_more}
use Rattle.std.proofs.lemmas.Grind.{flat_map-append}
use Rattle.kin_ids.specs.declared.ids.User.{User}
use Rattle.kin_ids.specs.declared.ops.Use.{Use}
use Rattle.kin_ids.specs.Users.{same_user, has_user, user_cmp}
use Rattle.kin_ids.proofs.Same.{same_user-true, same_user-sym}
use Rattle.kin_graph.specs.declared.deltas.UseRow.{UseRow}
use Rattle.kin_graph.specs.Deltas.{DeltaLists}
use Rattle.kin_changes.specs.Told.{pairs_of}
use Rattle.kin_rules.specs.declared.pull_rules.Facts.{Facts}
use Rattle.kin_rules.specs.Layers.{LayerRule, blank}
use Rattle.kin_rules.specs.Places.{place, found}
use Rattle.kin_rules.proofs.Places.{place-lt, get-place, map-place}
use Rattle.kin_rules.proofs.PlacedValues.{place-apart}
use Rattle.kin_pull.specs.Begins.{IsBegun, facts_after, is_rewired, is_touched, is_started, uses_told}
use Rattle.kin_pull.specs.Passes.{marked}
use Rattle.kin_pull.specs.Plans.{AreCopied, facts_at, start_of, with_more, with_fewer, with_uses}
use Rattle.kin_pull.specs.States.{KeptView, IsKept, value_in, now_in, told_in, is_fresh, is_from, active_at}
use Rattle.kin_rules.proofs.EdgeRows.{found-some, found-none}
use Rattle.kin_pull.proofs.Marks.{past-last}
use Rattle.kin_pull.proofs.Permuted.{filter-append}
use Rattle.kin_pull.proofs.Views.{facts-still}

away-other : (us : List User) (u x : User) → has_user us u ≡ false → has_user us x ≡ true → same_user x u ≡ false
away-other us u x none there = here (same_user x u) refl
  where
    here : (b : Bool) → same_user x u ≡ b → b ≡ false
    here false e = refl
    here true e = absurd (both_ways (has_user us u) none (subst (λ (y : User). has_user us y ≡ true) (same_user-true x u e) there))

-- what is written at the place of a user is read for it alone
pub read-set : {Y : Type 0} (us : List User) (ys : List Y) (u : User) (i : ℕ) (y d : Y) → length ys ≡ length us → found us u ≡ Some i
    → (x : User) → get_or (set ys i y) (place us x) d ≡ (if same_user x u then y else get_or ys (place us x) d)
read-set {Y} us ys u i y d long e x = ap (λ (n : ℕ). get_or (set ys n y) (place us x) d) at.1 ∙ here (same_user x u) refl
  where
    at : (has_user us u ≡ true) × (i ≡ place us u)
    at = found-some us u i e

    here : (b : Bool) → same_user x u ≡ b → get_or (set ys (place us u) y) (place us x) d ≡ (if b then y else get_or ys (place us x) d)
    here true s =
        let l = place-lt us u at.0 in
        subst (λ (z : User). get_or (set ys (place us u) y) (place us z) d ≡ y) (sym (same_user-true x u s)) (get_or-set_same ys
        (place us u) y d (omega (arith, l, long)))
    here false s = get_or-set_other ys (place us u) (place us x) y d (place-apart us u x at.0 (same_user-sym u x ∙ s))

if-true : (a b : Bool) → (if a then true else b) ≡ (b || a)
if-true true true = refl
if-true true false = refl
if-true false true = refl
if-true false false = refl

pub mark-there : (us : List User) (marks : List Bool) (u : User) (i : ℕ) → length marks ≡ length us → found us u ≡ Some i → (x : User)
    → marked us (set marks i true) x ≡ (marked us marks x || same_user x u)
mark-there us marks u i long e x = read-set us marks u i true false long e x ∙ if-true (same_user x u) (marked us marks x)

pub mark-away : (us : List User) (marks : List Bool) (u : User) → found us u ≡ None → (x : User) → has_user us x ≡ true
    → marked us marks x ≡ (marked us marks x || same_user x u)
mark-away us marks u e x there = sym (ap (λ (b : Bool). marked us marks x || b) (away-other us u x (found-none us u e) there)
    ∙ or-false (marked us marks x))

-- marks of two tests, one after the other
pub or-then : (a b c d e : Bool) → b ≡ (a || d) → c ≡ (b || e) → c ≡ (a || (d || e))
or-then a b c d e one two = two ∙ (ap (λ (t : Bool). t || e) one ∙ assoc a)
  where
    assoc : (t : Bool) → ((t || d) || e) ≡ (t || (d || e))
    assoc true = refl
    assoc false = refl

-- facts that change by so much, one after the other
more-none : (f : Facts) → f ≡ with_more 0 f
more-none f = let e : f.following ≡ f.following + 0 = omega arith in λ i. record f { following = e i }

fewer-none : (f : Facts) → f ≡ with_fewer 0 f
fewer-none f = let e : f.following ≡ f.following - 0 = omega arith in λ i. record f { following = e i }

uses-none : (f : Facts) → f ≡ with_uses [] f
uses-none f = λ i. record f { uses = sym (append-nil f.uses) i }

more-more : (a b n : ℕ) (f : Facts) → n ≡ a + b → with_more b (with_more a f) ≡ with_more n f
more-more a b n f e = let s : (f.following + a) + b ≡ f.following + n = omega (arith, e) in λ i. record f { following = s i }

fewer-fewer : (a b n : ℕ) (f : Facts) → n ≡ a + b → with_fewer b (with_fewer a f) ≡ with_fewer n f
fewer-fewer a b n f e = let s : (f.following - a) - b ≡ f.following - n = omega (arith, e) in λ i. record f { following = s i }

uses-uses : (a b n : List Use) (f : Facts) → n ≡ a ++ b → with_uses b (with_uses a f) ≡ with_uses n f
uses-uses a b n f e = λ i. record f { uses = (append_assoc f.uses a b ∙ ap (λ (xs : List Use). f.uses ++ xs) (sym e)) i }

pub more-start : (f g : Facts) → f ≡ g → f ≡ with_more 0 g
more-start f g e = e ∙ more-none g

-- one fact is changed at the place of a user
module _ (us : List User) (facts : List Facts) (u : User) (i : ℕ) (long : length facts ≡ length us) (e : found us u
    ≡ Some i) (old new : Facts) (was : old ≡ get_or facts i old) where
  was-at : (x : User) → same_user x u ≡ true → old ≡ facts_at us facts x
  was-at x s =
      let at = found-some us u i e in
      let l = place-lt us u at.0 in
      subst (λ (y : User). old ≡ facts_at us facts y) (sym (same_user-true x u s))
      (was ∙ (ap (λ (n : ℕ). get_or facts n old) at.1 ∙ get_or_default facts (place us u) old (blank u) (omega (arith, l, long))))

  pub more-there : new ≡ with_more 1 old → (x : User) → facts_at us (set facts i new) x
      ≡ with_more (if same_user x u then 1 else 0) (facts_at us facts x)
  more-there is x = read-set us facts u i new (blank x) long e x ∙ here (same_user x u) refl
    where
      here : (b : Bool) → same_user x u ≡ b → (if b then new else facts_at us facts x)
          ≡ with_more (if b then 1 else 0) (facts_at us facts x)
      here true s = is ∙ ap (with_more 1) (was-at x s)
      here false s = more-none (facts_at us facts x)

  pub fewer-there : new ≡ with_fewer 1 old → (x : User) → facts_at us (set facts i new) x
      ≡ with_fewer (if same_user x u then 1 else 0) (facts_at us facts x)
  fewer-there is x = read-set us facts u i new (blank x) long e x ∙ here (same_user x u) refl
    where
      here : (b : Bool) → same_user x u ≡ b → (if b then new else facts_at us facts x)
          ≡ with_fewer (if b then 1 else 0) (facts_at us facts x)
      here true s = is ∙ ap (with_fewer 1) (was-at x s)
      here false s = fewer-none (facts_at us facts x)

  pub uses-there : (item : Use) → new ≡ with_uses (item ∷ []) old → (x : User)
      → facts_at us (set facts i new) x ≡ with_uses (if same_user x u then item ∷ [] else []) (facts_at us facts x)
  uses-there item is x = read-set us facts u i new (blank x) long e x ∙ here (same_user x u) refl
    where
      here : (b : Bool) → same_user x u ≡ b → (if b then new else facts_at us facts x)
          ≡ with_uses (if b then item ∷ [] else []) (facts_at us facts x)
      here true s = is ∙ ap (with_uses (item ∷ [])) (was-at x s)
      here false s = uses-none (facts_at us facts x)

-- nobody's facts change
module _ (us : List User) (u : User) (e : found us u ≡ None) (x : User) (there : has_user us x ≡ true) (f : Facts) where
  pub more-away : f ≡ with_more (if same_user x u then 1 else 0) f
  more-away = more-none f ∙ ap (λ (b : Bool). with_more (if b then 1 else 0) f) (sym (away-other us u x (found-none us u e) there))

  pub fewer-away : f ≡ with_fewer (if same_user x u then 1 else 0) f
  fewer-away = fewer-none f ∙ ap (λ (b : Bool). with_fewer (if b then 1 else 0) f) (sym (away-other us u x (found-none us u e) there))

  pub uses-away : (item : Use) → f ≡ with_uses (if same_user x u then item ∷ [] else []) f
  uses-away item = uses-none f ∙ ap (λ (b : Bool). with_uses (if b then item ∷ [] else []) f) (sym (away-other us u x
      (found-none us u e) there))

-- one step of each loop
module _ {X : Type 0} (xs : List X) (i : ℕ) (x d : X) (lt : i < length xs) (at : x ≡ get_or xs i d) (start was is : Facts) where
  pub more-step : (f : X → ℕ) → is ≡ with_more (f x) was → was ≡ with_more (sum_by f (take i xs)) start
      → is ≡ with_more (sum_by f (take (i + 1) xs)) start
  more-step f now old = now ∙ (ap (with_more (f x)) old ∙ more-more (sum_by f (take i xs)) (f x) (sum_by f (take (i + 1) xs)) start
      (sum_by_more f xs i d lt ∙ ap (λ (y : X). sum_by f (take i xs) + f y) (sym at)))

  pub fewer-step : (f : X → ℕ) → is ≡ with_fewer (f x) was → was ≡ with_fewer (sum_by f (take i xs)) start
      → is ≡ with_fewer (sum_by f (take (i + 1) xs)) start
  fewer-step f now old = now ∙ (ap (with_fewer (f x)) old ∙ fewer-fewer (sum_by f (take i xs)) (f x) (sum_by f (take (i + 1) xs)) start
      (sum_by_more f xs i d lt ∙ ap (λ (y : X). sum_by f (take i xs) + f y) (sym at)))

  pub uses-step : (f : List X → List Use) → ((ys zs : List X) → f (ys ++ zs) ≡ f ys ++ f zs) → is ≡ with_uses (f (x ∷ [])) was
      → was ≡ with_uses (f (take i xs)) start → is ≡ with_uses (f (take (i + 1) xs)) start
  uses-step f joins now old =
      now ∙ (ap (with_uses (f (x ∷ []))) old ∙ uses-uses (f (take i xs)) (f (x ∷ [])) (f (take (i + 1) xs)) start
      (ap f (take_more xs i d lt ∙ ap (λ (y : X). take i xs ++ y ∷ []) (sym at)) ∙ joins (take i xs) (x ∷ [])))

pub rows-join : (u : User) (ys zs : List UseRow) → map (λ (x : UseRow). x.entry) (filter (λ (x : UseRow). same_user u x.user)
    (ys ++ zs)) ≡ map (λ (x : UseRow). x.entry) (filter (λ (x : UseRow). same_user u x.user) ys) ++ map (λ (x : UseRow). x.entry) (filter
    (λ (x : UseRow). same_user u x.user) zs)
rows-join u ys zs = ap (λ (xs : List UseRow). map (λ (x : UseRow). x.entry) xs) (filter-append (λ
    (x : UseRow). same_user u x.user) ys zs) ∙ map-append (λ (x : UseRow). x.entry) (filter (λ (x : UseRow). same_user u x.user) ys)
    (filter (λ (x : UseRow). same_user u x.user) zs)

pub row-one : (u : User) (x : UseRow) → (if same_user u x.user then x.entry ∷ [] else [])
    ≡ map (λ (y : UseRow). y.entry) (filter (λ (y : UseRow). same_user u y.user) (x ∷ []))
row-one u x = here (same_user u x.user)
  where
    here : (b : Bool) → (if b then x.entry ∷ [] else []) ≡ map (λ (y : UseRow). y.entry) (cond b (x ∷ []) [])
    here true = refl
    here false = refl

pub told-join : (u : User) (ys zs : List DeltaLists) → uses_told (ys ++ zs) u ≡ uses_told ys u ++ uses_told zs u
told-join u ys zs = flat_map-append (λ (d : DeltaLists). map (λ (x : UseRow). x.entry) (filter (λ
    (x : UseRow). same_user u x.user) d.uses)) ys zs

pub told-one : (u : User) (d : DeltaLists) → map (λ (x : UseRow). x.entry) (filter (λ (x : UseRow). same_user u x.user) d.uses)
    ≡ uses_told (d ∷ []) u
told-one u d = sym (append-nil (map (λ (x : UseRow). x.entry) (filter (λ (x : UseRow). same_user u x.user) d.uses)))

-- the facts after all of them
pub facts-all : (ds : List DeltaLists) (x : User) (f a b c : Facts) → a ≡ with_more (pairs_of (λ d. d.now_out) ds x) f
    → b ≡ with_fewer (pairs_of (λ d. d.gone_out) ds x) a → c ≡ with_uses (uses_told ds x) b → c ≡ facts_after ds x f
facts-all ds x f a b c one two three = three ∙ ap (with_uses (uses_told ds x)) (two ∙ ap (with_fewer (pairs_of (λ d. d.gone_out) ds x)) one)

-- rows of copies
pub copied-start : {V W : Type 0} (items : W → List V) (first : V) (us : List User) (k : KeptView V) (vs : List User) (rows : List W)
    → rows ≡ [] → AreCopied first us k vs 0 (map items rows)
copied-start {V} {W} items first us k vs rows e = subst (λ (ws : List W). AreCopied first us k vs 0 (map items ws)) (sym e)
    (record { long = refl; each = λ j lt. absurd (omega (arith, lt)) })

pub copied-step : {V W : Type 0} (items : W → List V) (first : V) (us : List User) (k : KeptView V) (vs : List User) (n : ℕ)
    (rows rows' : List W) (row : W) → AreCopied first us k vs n (map items rows) → items row ≡ map (value_in first us k (n + 1)) vs
    → rows' ≡ rows ++ row ∷ []
    → AreCopied first us k vs (n + 1) (map items rows')
copied-step {V} {W} items first us k vs n rows rows' row old is push = record {
  long = ap (λ (rs : List (List V)). length rs) pushed ∙ (length_push (map items rows) (items row) ∙ ap (λ (m : ℕ). m + 1) old.long);
  each = λ j lt. ap (λ (rs : List (List V)). get_or rs j []) pushed ∙ here j lt (nat_lt j n) refl;
}
  where
    pushed : map items rows' ≡ map items rows ++ items row ∷ []
    pushed = ap (map items) push ∙ map-append items rows (row ∷ [])

    here : (j : ℕ) → j < n + 1 → (b : Bool) → nat_lt j n ≡ b → get_or (map items rows ++ items row ∷ []) j []
        ≡ map (value_in first us k (j + 1)) vs
    here j lt true e =
        let below : j < n = grind (arith, nat_tests, e) in
        get_or_append_left (map items rows) (items row ∷ []) [] j (subst (λ (m : ℕ). j < m) (sym old.long) below) ∙ old.each j below
    here j lt false e =
        let same : n ≡ j = grind (arith, nat_tests, e, lt) in
        subst (λ (m : ℕ). get_or (map items rows ++ items row ∷ []) m [] ≡ map (value_in first us k (m + 1)) vs) same (get_or_push
        (map items rows) (items row) [] n old.long ∙ is)

-- one item more, by the places of the users
pub item-step : {Y : Type 0} (f : ℕ → Y) (ys ys' : List Y) (y d : Y) (i : ℕ) → length ys ≡ i → y ≡ f i → ys' ≡ ys ++ y ∷ [] → ((p : ℕ)
    → p < i → get_or ys p d ≡ f p) → (p : ℕ) → p < i + 1 → get_or ys' p d ≡ f p
item-step {Y} f ys ys' y d i long is push old p lt = ap (λ (zs : List Y). get_or zs p d) push ∙ here (nat_lt p i) refl
  where
    here : (b : Bool) → nat_lt p i ≡ b → get_or (ys ++ y ∷ []) p d ≡ f p
    here true e = let below : p < i = grind (arith, nat_tests, e) in get_or_append_left ys (y ∷ []) d p (subst (λ (n : ℕ). p < n)
        (sym long) below) ∙ old p below
    here false e = let same : i ≡ p = grind (arith, nat_tests, e, lt) in subst (λ (n : ℕ). get_or (ys ++ y ∷ []) n d
        ≡ f n) same (get_or_push ys y d i long ∙ is)

-- who is none of the users has the first value in each layer
value-away : {V : Type 0} (first : V) (us : List User) (top : ℕ) (k : KeptView V) → IsKept top us k → (j : ℕ) (x : User)
    → has_user us x ≡ false → value_in first us k j x ≡ first
value-away first us top k kept zero x none = refl
value-away {V} first us top k kept (suc j) x none = here (nat_lt j top) refl
  where
    here : (b : Bool) → nat_lt j top ≡ b → get_or (get_or k.rows j []) (place us x) first ≡ first
    here true e = past-last us (get_or k.rows j []) x first (kept.rows j (grind (arith, nat_tests, e))) none
    here false e =
        let le : length k.rows ≤ j = let l = kept.layers in grind (arith, nat_tests, e, l) in
        ap (λ (vs : List V). get_or vs (place us x) first) (get_or_past k.rows j [] le)

value-past : {V : Type 0} (first : V) (us : List User) (rows : List (List V)) (j : ℕ) (x : User) → length rows ≤ j
    → get_or (get_or rows j []) (place us x) first ≡ first
value-past {V} first us rows j x le = ap (λ (vs : List V). get_or vs (place us x) first) (get_or_past rows j [] le)

from-one : (j : ℕ) → is_from (Some 1) j ≡ nat_lt 0 j
from-one zero = refl
from-one (suc j) = grind (arith, nat_tests)

and-true : (a b : Bool) → b ≡ true → (a && b) ≡ a
and-true true b h = h
and-true false b h = refl

and-false : (a b : Bool) → b ≡ false → (a && b) ≡ false
and-false true b h = h
and-false false b h = refl

-- what a plan begins
module _ {V : Type 0} (r : LayerRule V) (top : ℕ) (ds : List DeltaLists) (us : List User) (k : KeptView V) (kept : IsKept top us k)
    (vs : List User) (ascend : IsStrictlySortedBy user_cmp vs) (all : (u : User) → has_user us u ≡ true → has_user vs u ≡ true)
    (touched : (u : User) → is_touched ds u ≡ true → has_user vs u ≡ true) (rewired : (u : User) → is_rewired r.side ds u ≡ true
    → has_user vs u ≡ true)
    (rows : List (List V)) (copied : AreCopied r.first us k vs top rows) (start facts : List Facts) (started : start
    ≡ map (now_in us k) vs) (long : length facts ≡ length vs)
    (changed : (x : User) → has_user vs x ≡ true → facts_at vs facts x ≡ facts_after ds x (facts_at vs start x))
    (touch wire : List Bool) (touches : (x : User) → has_user vs x ≡ true → marked vs touch x ≡ is_touched ds x) (wires : (x : User)
    → has_user vs x ≡ true → marked vs wire x ≡ is_rewired r.side ds x)
    (told : List (Option Facts)) (told-long : length told ≡ length vs) (tells : (i : ℕ) (d : User) → i < length vs
    → get_or told i None ≡ (if get_or touch i false then Some (now_in us k (get_or vs i d)) else None))
    (low : List (Option ℕ)) (low-long : length low ≡ length vs) (starts : (i : ℕ) (df : Facts) → i < length vs
    → get_or low i None ≡ start_of r (get_or wire i false) (get_or told i None) (get_or facts i df)) where
  abbrev next : KeptView V
  next = record { rows = rows; facts = facts; told = told; low = low; mixed = false }

  pub plan-kept : IsKept top vs next
  plan-kept = record {
    ascend = ascend;
    layers = copied.long;
    rows = λ j lt. ap (λ (row : List V). length row) (copied.each j lt) ∙ length-map vs (value_in r.first us k (j + 1));
    facts = long;
    told = told-long;
    low = low-long;
  }

  absent : (x : User) → has_user vs x ≡ false → has_user us x ≡ false
  absent x none = here (has_user us x) refl
    where
      here : (b : Bool) → has_user us x ≡ b → b ≡ false
      here false e = refl
      here true e = absurd (both_ways (has_user vs x) none (all x e))

  untouched : (x : User) → has_user vs x ≡ false → is_touched ds x ≡ false
  untouched x none = here (is_touched ds x) refl
    where
      here : (b : Bool) → is_touched ds x ≡ b → b ≡ false
      here false e = refl
      here true e = absurd (both_ways (has_user vs x) none (touched x e))

  unwired : (x : User) → has_user vs x ≡ false → is_rewired r.side ds x ≡ false
  unwired x none = here (is_rewired r.side ds x) refl
    where
      here : (b : Bool) → is_rewired r.side ds x ≡ b → b ≡ false
      here false e = refl
      here true e = absurd (both_ways (has_user vs x) none (rewired x e))

  values : (j : ℕ) (x : User) → value_in r.first vs next j x ≡ value_in r.first us k j x
  values zero x = refl
  values (suc j) x = here (has_user vs x) refl (nat_lt j top) refl
    where
      here : (b : Bool) → has_user vs x ≡ b → (c : Bool) → nat_lt j top ≡ c → value_in r.first vs next (suc j) x
          ≡ value_in r.first us k (suc j) x
      here false e c lt = value-away r.first vs top next plan-kept (suc j) x e
          ∙ sym (value-away r.first us top k kept (suc j) x (absent x e))
      here true e true lt =
          ap (λ (row : List V). get_or row (place vs x) r.first) (copied.each j (grind (arith, nat_tests, lt)))
          ∙ (map-place (value_in r.first us k (j + 1)) vs x r.first e ∙ ap (λ (n : ℕ). value_in r.first us k n x) (add-one j))
      here true e false lt =
          let a : length rows ≤ j = let l = copied.long in grind (arith, nat_tests, lt, l) in
          let b : length k.rows ≤ j = let l = kept.layers in grind (arith, nat_tests, lt, l) in
          value-past r.first vs rows j x a ∙ sym (value-past r.first us k.rows j x b)

  blank-away : (x : User) → has_user vs x ≡ false → now_in us k x ≡ blank x
  blank-away x none = past-last us k.facts x (blank x) kept.facts (absent x none)

  now : (x : User) → now_in vs next x ≡ facts_after ds x (now_in us k x)
  now x = here (has_user vs x) refl
    where
      here : (b : Bool) → has_user vs x ≡ b → now_in vs next x ≡ facts_after ds x (now_in us k x)
      here true e = changed x e ∙ ap (facts_after ds x) (ap (λ (fs : List Facts). get_or fs (place vs x) (blank x)) started
          ∙ map-place (now_in us k) vs x (blank x) e)
      here false e = past-last vs facts x (blank x) long e ∙ sym (facts-still ds x (now_in us k x) (untouched x e) ∙ blank-away x e)

  told-at : (x : User) → has_user vs x ≡ true → get_or told (place vs x) None ≡ (if is_touched ds x then Some (now_in us k x) else None)
  told-at x e = tells (place vs x) x (place-lt vs x e) ∙ ap₂ (λ (b : Bool) (y : User). if b then Some (now_in us k y) else None)
      (touches x e) (get-place vs x x e)

  tells-now : (x : User) → told_in vs next x ≡ now_in us k x
  tells-now x = here (has_user vs x) refl
    where
      there : (t : Bool) → is_touched ds x ≡ t → unwrap_or (if t then Some (now_in us k x) else None) (now_in vs next x) ≡ now_in us k x
      there true h = refl
      there false h = now x ∙ facts-still ds x (now_in us k x) h

      here : (b : Bool) → has_user vs x ≡ b → told_in vs next x ≡ now_in us k x
      here true e = ap (λ (o : Option Facts). unwrap_or o (now_in vs next x)) (told-at x e) ∙ there (is_touched ds x) refl
      here false e =
          ap (λ (o : Option Facts). unwrap_or o (now_in vs next x)) (past-last vs told x None told-long e) ∙ (now x
          ∙ facts-still ds x (now_in us k x) (untouched x e))

  fresh : (x : User) → is_fresh vs next x ≡ is_touched ds x
  fresh x = here (has_user vs x) refl
    where
      there : (t : Bool) → is_some (if t then Some (now_in us k x) else None) ≡ t
      there true = refl
      there false = refl

      here : (b : Bool) → has_user vs x ≡ b → is_fresh vs next x ≡ is_touched ds x
      here true e = ap (λ (o : Option Facts). is_some o) (told-at x e) ∙ there (is_touched ds x)
      here false e = ap (λ (o : Option Facts). is_some o) (past-last vs told x None told-long e) ∙ sym (untouched x e)

  active : (j : ℕ) (x : User) → active_at vs next j x ≡ (nat_lt 0 j && is_started r ds (now_in us k) x)
  active j x = here (has_user vs x) refl
    where
      was : Facts
      was = now_in us k x

      is : Facts
      is = facts_after ds x (now_in us k x)

      kept-on : (a : Bool) → is_from (if a then None else Some 1) j ≡ (nat_lt 0 j && not a)
      kept-on true = sym (and-false (nat_lt 0 j) false refl)
      kept-on false = from-one j ∙ sym (and-true (nat_lt 0 j) true refl)

      there : (w t : Bool) → is_from (start_of r w (if t then Some (now_in us k x) else None) (facts_after ds x (now_in us k x))) j
          ≡ (nat_lt 0 j && (w || (t && not (r.own_alike (now_in us k x) (facts_after ds x (now_in us k x))))))
      there true t = from-one j ∙ sym (and-true (nat_lt 0 j) true refl)
      there false false = sym (and-false (nat_lt 0 j) false refl)
      there false true = kept-on (r.own_alike (now_in us k x) (facts_after ds x (now_in us k x)))

      here : (b : Bool) → has_user vs x ≡ b → active_at vs next j x ≡ (nat_lt 0 j && is_started r ds (now_in us k) x)
      here true e =
          ap (λ (o : Option ℕ). is_from o j) (starts (place vs x) (blank x) (place-lt vs x e))
          ∙ ((λ i. is_from (start_of r (wires x e i) (told-at x e i) (now x i)) j) ∙ there (is_rewired r.side ds x) (is_touched ds x))
      here false e =
          ap (λ (o : Option ℕ). is_from o j) (past-last vs low x None low-long e)
          ∙ sym (and-false (nat_lt 0 j) (is_started r ds (now_in us k) x)
          (ap₂ (λ (a b : Bool). a || (b && not (r.own_alike (now_in us k x) (facts_after ds x (now_in us k x))))) (unwired x e)
          (untouched x e)))

  pub plan-begun : IsBegun r ds us k vs next
  plan-begun = record { values = values; now = now; told = tells-now; fresh = fresh; active = active; mixed = refl }
