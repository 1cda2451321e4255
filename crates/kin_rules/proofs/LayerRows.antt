-- Rows of layers by place.
use Rattle.std.proofs.Common.{◌≡◌, ◌<◌, ◌≤◌, ◌+◌, ◌∙◌, ◌||◌, ℕ, zero, suc, Bool, true, false, List, [], ◌∷◌, ◌++◌, All, Option, Some, None, IfSome, length, get_or, map, filter, take, cond, ltb, add-one, arith, refl, sym, ap, subst}
use Rattle.std.specs.List.{cons_option, count_by}
use Rattle.std.proofs.lemmas.Bool.{or_left, or_right}
use Rattle.std.proofs.lemmas.List.{append_assoc, length-map, get_or-map, map_more, get_or_append_left, get_or_push, length_push, map_push}
use Rattle.std.proofs.lemmas.List.Sums.{sum_by-cons}
use Rattle.std.proofs.lemmas.Bool.Decides.{nat_tests}
use Rattle.kin_ids.specs.declared.ids.User.{User}
use Rattle.kin_ids.specs.declared.ops.Half.{Half}
use Rattle.kin_ids.specs.Users.{same_user, has_user}
use Rattle.kin_ids.proofs.Same.{same_user-true, same_user-refl}
use Rattle.kin_rules.specs.declared.pull_rules.Facts.{Facts}
use Rattle.kin_rules.specs.declared.pull_rules.Input.{Input}
use Rattle.kin_rules.specs.Layers.{LayerRule, LayerNet, layer, inputs_of, AreShares}
use Rattle.kin_rules.specs.LayerTables.{IsTable, ArePlaces, AreRows, AreAllShares, input_at, present_ends}
use Rattle.kin_rules.specs.Places.{place, found}
use Rattle.kin_rules.specs.Edges.{places_of, rows_of}
use Rattle.kin_rules.proofs.Places.{place-lt, map-place, has-get}

-- who passes the test of a filter is kept, and who is kept passes it
pub has-filter : (us ys : List User) (y : User) → has_user (filter (has_user us) ys) y ≡ true → has_user us y ≡ true
has-filter us [] y h = absurd cc
has-filter us (z ∷ zs) y h = here (has_user us z) refl h (has-filter us zs y)
  where
    here : (b : Bool) → has_user us z ≡ b → has_user (cond b (z ∷ filter (has_user us) zs) (filter (has_user us) zs)) y ≡ true → (has_user (filter (has_user us) zs) y ≡ true → has_user us y ≡ true) → has_user us y ≡ true
    here false e h old = old h
    here true e h old = this (same_user y z) refl h
      where
        this : (b : Bool) → same_user y z ≡ b → (b || has_user (filter (has_user us) zs) y) ≡ true → has_user us y ≡ true
        this true s h = subst (λ (x : User). has_user us x ≡ true) (sym (same_user-true y z s)) e
        this false s h = old h

pub filter-whole : (us ys : List User) → ((y : User) → has_user ys y ≡ true → has_user us y ≡ true) → filter (has_user us) ys ≡ ys
filter-whole us [] there = refl
filter-whole us (y ∷ ys) there =
    rw (there y (or_left (same_user y y) (has_user ys y) (same_user-refl y))) (ap (λ (zs : List User). y ∷ zs) (filter-whole us ys (λ z h. there z (or_right (same_user z y) (has_user ys z) h))))

-- places of those who have one
pub places-of : (us ys : List User) → places_of us ys ≡ map (place us) (filter (has_user us) ys)
places-of us [] = refl
places-of us (y ∷ ys) = here (has_user us y) refl (places-of us ys)
  where
    here : (b : Bool) → has_user us y ≡ b → places_of us ys ≡ map (place us) (filter (has_user us) ys) → places_of us (y ∷ ys) ≡ map (place us) (cond b (y ∷ filter (has_user us) ys) (filter (has_user us) ys))
    here true e old = rw e (ap (λ (is : List ℕ). place us y ∷ is) old)
    here false e old = rw e old

-- places of users who are there are below the length
pub places-below : (us ys : List User) → ((y : User) → has_user ys y ≡ true → has_user us y ≡ true) → All (λ i. i < length us) (map (place us) ys)
places-below us [] there = λ k d lt. absurd (omega (arith, lt))
places-below us (y ∷ ys) there = λ k. elim k as (λ (q : ℕ). (d : ℕ) → q < length (map (place us) (y ∷ ys)) → get_or (map (place us) (y ∷ ys)) q d < length us) [
  | zero ↦ λ d lt. place-lt us y (there y (or_left (same_user y y) (has_user ys y) (same_user-refl y)))
  | suc q ↦ λ d lt. places-below us ys (λ z h. there z (or_right (same_user z y) (has_user ys z) h)) q d (omega (arith, lt))
]

-- the rows of users have places alone
pub rows-places : (us : List User) (ends : User → List User) → ArePlaces (length us) (rows_of us ends)
rows-places us ends k d lt =
    let long : k < length us = subst (λ (n : ℕ). k < n) (length-map us (λ u. places_of us (ends u))) lt in
    let u0 : User = record { 0 = 0 } in
    let x = get_or us k u0 in
    subst (λ (row : List ℕ). All (λ i. i < length us) row) (sym (get_or-map (λ (u : User). places_of us (ends u)) us k u0 d long ∙ places-of us (ends x))) (places-below us (filter (has_user us) (ends x)) (λ y h. has-filter us (ends x) y h))

pub row-places : (n : ℕ) (rows : List (List ℕ)) → ArePlaces n rows → (k : ℕ) → All (λ i. i < n) (get_or rows k [])
row-places n rows all k = here (ltb k (length rows)) refl
  where
    past : (rs : List (List ℕ)) (i : ℕ) → length rs ≤ i → get_or rs i [] ≡ []
    past [] i le = refl
    past (r ∷ rs) zero le = absurd (omega (arith, le))
    past (r ∷ rs) (suc i) le = past rs i (omega (arith, le))

    here : (b : Bool) → ltb k (length rows) ≡ b → All (λ i. i < n) (get_or rows k [])
    here true e = all k [] (grind (arith, nat_tests, e))
    here false e = subst (λ (row : List ℕ). All (λ i. i < n) row) (sym (past rows k (grind (arith, nat_tests, e)))) (λ i d lt. absurd (omega (arith, lt)))

-- inputs read at their places
pub inputs-at : {V : Type 0} (df : Facts) (d : V) (c : User → Facts) (f : User → V) (us ys : List User) → ((y : User) → has_user ys y ≡ true → has_user us y ≡ true)
    → map (input_at df d (map c us) (map f us)) (map (place us) ys) ≡ inputs_of c f ys
inputs-at df d c f us [] there = refl
inputs-at {V} df d c f us (y ∷ ys) there =
    let h = there y (or_left (same_user y y) (has_user ys y) (same_user-refl y)) in
    let one : input_at df d (map c us) (map f us) (place us y) ≡ record { facts = c y; value = f y } = rw (map-place c us y df h) (rw (map-place f us y d h) refl) in
    let old = inputs-at df d c f us ys (λ z k. there z (or_right (same_user z y) (has_user ys z) k)) in
    ap (λ (i : Input V). i ∷ map (input_at df d (map c us) (map f us)) (map (place us) ys)) one ∙ ap (λ (is : List (Input V)). record { facts = c y; value = f y } ∷ is) old

module _ {V : Type 0} (r : LayerRule V) (net : LayerNet) (us : List User) (facts : List Facts) (rows : List (List ℕ)) (t : IsTable net us facts rows) where
  row-at : (k : ℕ) (d : User) → k < length us → get_or rows k [] ≡ map (place us) (net.inputs (get_or us k d))
  row-at k d lt = ap (λ (es : List (List ℕ)). get_or es k []) t.rows_are ∙ get_or-map (λ (x : User). map (place us) (net.inputs x)) us k d [] lt

  pub facts-long : length facts ≡ length us
  facts-long = ap (λ (fs : List Facts). length fs) t.facts_are ∙ length-map us net.facts

  -- what the rule makes of a row's inputs is the layer above
  pub row-step : (j : ℕ) (row : List V) (k : ℕ) (d : User) (df : Facts) (dv : V) (own : Facts) → row ≡ map (layer r net j) us → k < length us → own ≡ get_or facts k own
      → r.next own (map (input_at df dv facts row) (get_or rows k [])) ≡ layer r net (j + 1) (get_or us k d)
  row-step j row k d df dv own is lt o =
      let x = get_or us k d in
      let a : own ≡ net.facts x = o ∙ ap (λ (fs : List Facts). get_or fs k own) t.facts_are ∙ get_or-map net.facts us k d own lt in
      let b : map (input_at df dv facts row) (get_or rows k []) ≡ inputs_of net.facts (layer r net j) (net.inputs x)
      = ap (λ (is : List ℕ). map (input_at df dv facts row) is) (row-at k d lt)
      ∙ ap (λ (fs : List Facts). map (input_at df dv fs row) (map (place us) (net.inputs x))) t.facts_are
      ∙ ap (λ (vs : List V). map (input_at df dv (map net.facts us) vs) (map (place us) (net.inputs x))) is
      ∙ inputs-at df dv net.facts (layer r net j) us (net.inputs x) (λ y h. t.closed x y (has-get us k d lt) h) in
      ap (λ (f : Facts). r.next f (map (input_at df dv facts row) (get_or rows k []))) a ∙ ap (λ (is : List (Input V)). r.next (net.facts x) is) b ∙ ap (λ (i : ℕ). layer r net i x) (sym (add-one j))

  -- one more value of the row above
  pub row-next : (j k : ℕ) (row was is : List V) (own : Facts) (ends : List ℕ) (v : V) → k < length facts → row ≡ map (layer r net j) us → own ≡ get_or facts k own → ends ≡ get_or rows k []
      → ((df : Facts) (dv : V) → v ≡ r.next own (map (input_at df dv facts row) ends)) → was ≡ map (layer r net (j + 1)) (take k us) → is ≡ was ++ v ∷ [] → is ≡ map (layer r net (j + 1)) (take (k + 1) us)
  row-next j k row was is own ends v below are o at value old push =
      let lt : k < length us = subst (λ (n : ℕ). k < n) facts-long below in
      let d : User = record { 0 = 0 } in
      let a : v ≡ layer r net (j + 1) (get_or us k d) = value own v ∙ ap (λ (is : List ℕ). r.next own (map (input_at own v facts row) is)) at ∙ row-step j row k d own v own are lt o in
      push ∙ ap (λ (vs : List V). vs ++ v ∷ []) old ∙ ap (λ (w : V). map (layer r net (j + 1)) (take k us) ++ w ∷ []) a ∙ sym (map_more (layer r net (j + 1)) us k d lt)

  -- the first value for each of the facts is row 0
  pub first-row : (row : List V) → row ≡ map (λ x. r.first) facts → row ≡ map (layer r net 0) us
  first-row row is = is ∙ alike facts us facts-long
    where
      alike : (fs : List Facts) (vs : List User) → length fs ≡ length vs → map (λ x. r.first) fs ≡ map (λ x. r.first) vs
      alike [] [] e = refl
      alike [] (v ∷ vs) e = absurd cc
      alike (f ∷ fs) [] e = absurd cc
      alike (f ∷ fs) (v ∷ vs) e = ap (λ (ws : List V). r.first ∷ ws) (alike fs vs (omega (arith, e)))

  -- one row more
  pub rows-next : {W : Type 0} (items : W → List V) (was is : List W) (row : W) (n : ℕ) → AreRows r net us n (map items was) → items row ≡ map (layer r net n) us → is ≡ was ++ row ∷ [] → AreRows r net us (n + 1) (map items is)
  rows-next {W} items was is row n old last push =
      let pushed : map items is ≡ map items was ++ items row ∷ [] = ap (λ (ws : List W). map items ws) push ∙ map_push items was row in
      record {
        long = ap (λ (rs : List (List V)). length rs) pushed ∙ length_push (map items was) (items row) ∙ ap (λ (m : ℕ). m + 1) old.long;
        each = λ j lt. ap (λ (rs : List (List V)). get_or rs j []) pushed ∙ here j lt (ltb j n) refl;
      }
    where
      here : (j : ℕ) → j < n + 1 → (b : Bool) → ltb j n ≡ b → get_or (map items was ++ items row ∷ []) j [] ≡ map (layer r net j) us
      here j lt true e = let below : j < n = grind (arith, nat_tests, e) in get_or_append_left (map items was) (items row ∷ []) [] j (subst (λ (m : ℕ). j < m) (sym old.long) below) ∙ old.each j below
      here j lt false e = let same : j ≡ n = grind (arith, nat_tests, e, lt) in get_or_push (map items was) (items row) [] j (old.long ∙ sym same) ∙ last ∙ ap (λ (i : ℕ). map (layer r net i) us) (sym same)

-- no rows yet
pub rows-start : {V W : Type 0} (r : LayerRule V) (net : LayerNet) (us : List User) (items : W → List V) (is : List W) → is ≡ [] → AreRows r net us 0 (map items is)
rows-start {V} {W} r net us items is e = subst (λ (ws : List W). AreRows r net us 0 (map items ws)) (sym e) (record { long = refl; each = λ j lt. absurd (omega (arith, lt)) })

-- the shares at places are those of the inputs there
pub shares-at : {V : Type 0} (share : Facts → V → ℕ) (df : Facts) (d : V) (facts : List Facts) (row : List V) (shares ends : List ℕ) → All (λ i. i < length facts) ends → AreAllShares share facts row shares
    → AreShares share (map (input_at df d facts row) ends) shares ends
shares-at share df d facts row shares [] below all = refl
shares-at share df d facts row shares (e ∷ es) below all =
    let one = all.each e df d (below 0 0 (omega arith)) in
    let old = shares-at share df d facts row shares es (λ k b lt. below (suc k) b (omega (arith, lt))) all in
    ap (λ (n : ℕ). n ∷ map (λ (i : Input _). share i.facts i.value) (map (input_at df d facts row) es)) (sym one) ∙ ap (λ (ns : List ℕ). get_or shares e 0 ∷ ns) old

pub if-some : {T : Type 0} (P : T → Type 0) (o : Option T) (v : T) → o ≡ Some v → IfSome o P → P v
if-some P o v e h = subst (λ (q : Option _). IfSome q P) e h

-- the present ends of one half and of those after it
present-first : (h : Half) (hs : List Half) → present_ends (h ∷ hs) ≡ present_ends (h ∷ []) ++ present_ends hs
present-first h hs = here h.present
  where
    here : (b : Bool) → map (λ (q : Half). q.other) (cond b (h ∷ filter (λ q. q.present) hs) (filter (λ q. q.present) hs)) ≡ map (λ (q : Half). q.other) (cond b (h ∷ []) []) ++ present_ends hs
    here true = refl
    here false = refl

-- one present half more
pub present-one : (h : Half) (hs : List Half) → h.present ≡ true → count_by (λ (q : Half). q.present) (h ∷ hs) ≡ 1 + count_by (λ (q : Half). q.present) hs
present-one h hs e = sum_by-cons (λ (q : Half). cond q.present 1 0) h hs ∙ ap (λ (b : Bool). cond b 1 0 + count_by (λ (q : Half). q.present) hs) e

places-joined : (us xs ys : List User) → places_of us (xs ++ ys) ≡ places_of us xs ++ places_of us ys
places-joined us [] ys = refl
places-joined us (x ∷ xs) ys = here (found us x) (places-joined us xs ys)
  where
    here : (o : Option ℕ) → places_of us (xs ++ ys) ≡ places_of us xs ++ places_of us ys → cons_option o (places_of us (xs ++ ys)) ≡ cons_option o (places_of us xs) ++ places_of us ys
    here None old = old
    here (Some i) old = ap (λ (is : List ℕ). i ∷ is) old

-- one half more, before those that are left
pub ends-next : (us : List User) (h : Half) (hs left : List Half) (was is all : List ℕ) → left ≡ h ∷ hs → was ++ places_of us (present_ends left) ≡ all → is ≡ was ++ places_of us (present_ends (h ∷ []))
    → is ++ places_of us (present_ends hs) ≡ all
ends-next us h hs left was is all here old push =
    let one = places_of us (present_ends (h ∷ [])) in
    let others = places_of us (present_ends hs) in
    let both : places_of us (present_ends (h ∷ hs)) ≡ one ++ others = ap (λ (xs : List User). places_of us xs) (present-first h hs) ∙ places-joined us (present_ends (h ∷ [])) (present_ends hs) in
    ap (λ (ns : List ℕ). ns ++ others) push ∙ (append_assoc was one others ∙ (ap (λ (ns : List ℕ). was ++ ns) (sym both) ∙ (ap (λ (xs : List Half). was ++ places_of us (present_ends xs)) (sym here) ∙ old)))
