-- What a turn leaves.
use Rattle.std.proofs.Common.{◌≡◌, ◌≢◌, ◌<◌, ◌≤◌, ◌+◌, ◌∙◌, ◌⊎◌, inl, inr, ◌||◌, ◌&&◌, nat_lt, eqb, add-one, ℕ, zero, suc, Bool, true}
use Rattle.std.proofs.Common.{false, List, [], ◌∷◌, ◌++◌, map, length, get_or, slice_get, Option, Some, None, is_some, unwrap_or, All, IfSome}
use Rattle.std.proofs.Common.{if◌then◌else◌, arith, refl, sym, ap, ap₂, subst}
use Rattle.std.proofs.lemmas.Bool.{both_ways, or_left, or_right, or_parts, or_cases, and_parts}
use Rattle.std.proofs.lemmas.Bool.Decides.{nat_tests}
use Rattle.std.proofs.lemmas.Option.{unwrap_or-slice_get}
use Rattle.std.proofs.lemmas.List.{get_or_default, get_or_append_left, get_or_push, length_push, get_or_past}
use Rattle.kin_ids.specs.declared.ids.User.{User}
use Rattle.kin_ids.specs.Users.{same_user, has_user}
use Rattle.kin_ids.specs.Parts.{PartView}
use Rattle.kin_ids.proofs.Same.{same_user-true, same_user-refl, same_user-sym}
use Rattle.kin_rules.specs.declared.pull_rules.Facts.{Facts}
use Rattle.kin_rules.specs.declared.pull_rules.Input.{Input}
use Rattle.kin_rules.specs.Edges.{places_of}
use Rattle.kin_rules.specs.Going.{has_place}
use Rattle.kin_rules.specs.Layers.{LayerRule, IsLayerRule, AreSameFacts, blank, inputs_of}
use Rattle.kin_rules.specs.LayerTables.{facts_seen, neighbours_seen}
use Rattle.kin_rules.specs.Places.{place}
use Rattle.kin_rules.proofs.Places.{place-lt}
use Rattle.kin_pull.specs.Keeping.{PullNet, Keeping, IsStanding, IsAtRest, next_of, shows}
use Rattle.kin_pull.specs.States.{KeptView, IsKept, On, row_in, value_in, now_in, told_in, is_fresh, is_from, low_in, active_at, is_active, keeping}
use Rattle.kin_pull.specs.States.{net_in, opposite}
use Rattle.kin_pull.specs.TurnPlans.{TurnPlanView, IsTurnPlan, planned_value}
use Rattle.kin_pull.specs.TurnSteps.{IsColumn, IsTurnedOver, column_at, turned_at, turned_in, turned_input, shows_turned}
use Rattle.kin_pull.specs.Turns.{IsTurn, IsMoved, IsRested}
use Rattle.kin_pull.proofs.Marks.{past-last, place-same, places-there, places-has, there-at}
use Rattle.kin_pull.proofs.Standing.{inputs-same, shows-none, turn-law}
use Rattle.kin_pull.proofs.Tells.{ends-below, inputs-there, readers-there}

-- inputs where the turning user has its column
pub turned-inputs : {V : Type 0} (first : V) (us : List User) (k : KeptView V) (column : List V) (u : User) (i j : ℕ) (df : Facts)
    (ys : List User) → length k.facts ≡ length us → has_user us u ≡ true → place us u ≡ i
    → ((y : User) → has_user ys y ≡ true → has_user us y ≡ true) → map (turned_input df first k column i j) (map (place us) ys)
    ≡ inputs_of (now_in us k) (turned_in first us k column u j) ys
turned-inputs first us k column u i j df [] long there at within = refl
turned-inputs {V} first us k column u i j df (y ∷ ys) long there at within =
    let h = within y (or_left (same_user y y) (has_user ys y) (same_user-refl y)) in
    let lt = place-lt us y h in
    let facts : get_or k.facts (place us y) df ≡ now_in us k y = get_or_default k.facts (place us y) df (blank y) (omega
    (arith, lt, long)) in
    let same : eqb (place us y) i ≡ same_user y u = ap (eqb (place us y)) (sym at) ∙ place-same us y u there in
    let value : turned_at first k column i j (place us y) ≡ turned_in first us k column u j y = ap (λ
    (b : Bool). if b then column_at first column j else value_in first us k j y) same in
    ap₂ (λ (f : Facts) (v : V). let input : Input V = record { facts = f; value = v } in input ∷ map (turned_input df first k column i j)
    (map (place us) ys)) facts value
    ∙ ap (λ (is : List (Input V)). record { facts = now_in us k y; value = turned_in first us k column u j y } ∷ is)
    (turned-inputs first us k column u i j df ys long there at (λ z g. within z (or_right (same_user z y) (has_user ys z) g)))

-- a column of one layer more
module _ {V : Type 0} (r : LayerRule V) (v : PartView) (us : List User) (k : KeptView V) (u : User) where
  pub column-start : (column : List V) → column ≡ [] → IsColumn r v us k u 0 column
  column-start column e = subst (λ (c : List V). IsColumn r v us k u 0 c) (sym e) (record {
    long = refl;
    each = λ j lt. absurd (omega
        (arith, lt));
  })

  module _ (n : ℕ) (column is : List V) (value : V) (old : IsColumn r v us k u n column) (push : is ≡ column ++ value ∷ []) (top : value
      ≡ next_of r (net_in r.side v us k) (turned_in r.first us k column u n) u) where
    lower : (j : ℕ) → j ≤ n → column_at r.first is j ≡ column_at r.first column j
    lower zero le = refl
    lower (suc j) le =
        let lt : j < n = omega (arith, le) in
        ap (λ (c : List V). get_or c j r.first) push ∙ get_or_append_left column (value ∷ []) r.first j (subst (λ (m : ℕ). j < m)
        (sym old.long) lt)

    same-next : (j : ℕ) → j ≤ n → next_of r (net_in r.side v us k) (turned_in r.first us k column u j) u
        ≡ next_of r (net_in r.side v us k) (turned_in r.first us k is u j) u
    same-next j le = ap (r.next (now_in us k u)) (inputs-same (now_in us k) (now_in us k) (turned_in r.first us k column u j)
        (turned_in r.first us k is u j) (neighbours_seen r.side v u)
        (λ y i. (refl, ap (λ (x : V). if same_user y u then x else value_in r.first us k j y) (sym (lower j le)))))

    each : (j : ℕ) → j < n + 1 → (b : Bool) → nat_lt j n ≡ b → column_at r.first is (suc j)
        ≡ next_of r (net_in r.side v us k) (turned_in r.first us k is u j) u
    each j lt true e = let less : j < n = grind (arith, nat_tests, e) in lower (suc j) (omega (arith, less)) ∙ (old.each j less
        ∙ same-next j (omega (arith, less)))
    each j lt false e =
        let same : n ≡ j = grind (arith, nat_tests, e, lt) in
        subst (λ (m : ℕ). column_at r.first is (suc m) ≡ next_of r (net_in r.side v us k) (turned_in r.first us k is u m) u) same
        (ap (λ (c : List V). get_or c n r.first) push ∙ (get_or_push column value r.first n old.long ∙ (top ∙ same-next n (omega arith))))

    pub column-step : IsColumn r v us k u (n + 1) is
    column-step = record {
      long = ap (λ (c : List V). length c) push ∙ (length_push column value ∙ ap (λ (m : ℕ). m + 1) old.long);
      each = λ j lt. each j lt (nat_lt j n) refl;
    }

-- what is kept after the turn
module _ {V : Type 0} (r : LayerRule V) (laws : IsLayerRule r) (top : ℕ) (v : PartView) (us : List User) (k : KeptView V)
    (kept : IsKept top us k) (on : On r top v us k) (u : User) (i : ℕ) (at : place us u ≡ i) (within : i < length us)
    (column : List V) (is : IsColumn r v us k u top column) (from : Option ℕ)
    (hidden : (j : ℕ) → j < top → is_from from (j + 1) ≡ false → shows_turned r us k column u j ≡ false)
    (shown : IfSome from (λ l. (j : ℕ) × (l ≡ j + 1) × (j < top) × (shows_turned r us k column u j ≡ true)))
    (readers : List ℕ) (are : readers ≡ (if is_some from then places_of us (neighbours_seen (opposite r.side) v u) else []))
    (new : KeptView V) (over : IsTurnedOver i column from readers k new) where
  abbrev net : PullNet
  net = net_in r.side v us k

  abbrev before : Keeping V
  before = keeping r.first us k

  abbrev after : Keeping V
  after = keeping r.first us new

  there : has_user us u ≡ true
  there = there-at us u (subst (λ (n : ℕ). n < length us) (sym at) within)

  same-place : (x : User) → eqb (place us x) i ≡ same_user x u
  same-place x = ap (eqb (place us x)) (sym at) ∙ place-same us x u there

  pub turned-kept : IsKept top us new
  turned-kept = record {
    ascend = kept.ascend;
    layers = over.rows ∙ kept.layers;
    rows = λ j lt. over.longs j ∙ kept.rows j lt;
    facts = ap (λ (fs : List Facts). length fs) over.facts ∙ kept.facts;
    told = over.told.0 ∙ kept.told;
    low = over.low_long ∙ kept.low;
  }

  now-same : (x : User) → now_in us new x ≡ now_in us k x
  now-same x = ap (λ (fs : List Facts). get_or fs (place us x) (blank x)) over.facts

  -- the layers
  past-value : (n : KeptView V) (j : ℕ) (x : User) → length n.rows ≤ j → value_in r.first us n (suc j) x ≡ r.first
  past-value n j x le = ap (λ (row : List V). get_or row (place us x) r.first) (get_or_past n.rows j [] le)

  other-value : (j : ℕ) (x : User) → same_user u x ≡ false → value_in r.first us new j x ≡ value_in r.first us k j x
  other-value zero x apart = refl
  other-value (suc j) x apart = here (nat_lt j top) refl (has_user us x) refl
    where
      here : (b : Bool) → nat_lt j top ≡ b → (c : Bool) → has_user us x ≡ c → value_in r.first us new (suc j) x
          ≡ value_in r.first us k (suc j) x
      here false e c h =
          let a : length new.rows ≤ j = let l = over.rows in let m = kept.layers in grind (arith, nat_tests, e, l, m) in
          let b : length k.rows ≤ j = let m = kept.layers in grind (arith, nat_tests, e, m) in
          past-value new j x a ∙ sym (past-value k j x b)
      here true e false h =
          let lt : j < top = grind (arith, nat_tests, e) in
          past-last us (get_or new.rows j []) x r.first (turned-kept.rows j lt) h
          ∙ sym (past-last us (get_or k.rows j []) x r.first (kept.rows j lt) h)
      here true e true h =
          let lt : j < top = grind (arith, nat_tests, e) in
          let l = place-lt us x h in
          over.each j (place us x) r.first (omega (arith, lt, kept.layers)) (omega (arith, l, kept.rows j lt))
          ∙ ap (λ (b : Bool). if b then get_or column j r.first else value_in r.first us k (suc j) x) (same-place x ∙ (same_user-sym x u
          ∙ apart))

  own-value : (j : ℕ) → j ≤ top → value_in r.first us new j u ≡ column_at r.first column j
  own-value zero le = refl
  own-value (suc j) le =
      let lt : j < top = omega (arith, le) in
      let l = place-lt us u there in
      over.each j (place us u) r.first (omega (arith, lt, kept.layers)) (omega (arith, l, kept.rows j lt))
      ∙ ap (λ (b : Bool). if b then get_or column j r.first else value_in r.first us k (suc j) u) (same-place u ∙ same_user-refl u)

  value-turned : (j : ℕ) (x : User) → j ≤ top → turned_in r.first us k column u j x ≡ value_in r.first us new j x
  value-turned j x le = here (same_user x u) refl
    where
      here : (b : Bool) → same_user x u ≡ b → (if b then column_at r.first column j else value_in r.first us k j x)
          ≡ value_in r.first us new j x
      here true e = subst (λ (y : User). column_at r.first column j ≡ value_in r.first us new j y) (sym (same_user-true x u e)) (sym
          (own-value j le))
      here false e = sym (other-value j x (same_user-sym u x ∙ e))

  at-rest : (j : ℕ) → j < top → IsAtRest r net (value_in r.first us new) j u
  at-rest j lt =
      own-value (suc j) (omega (arith, lt)) ∙ (is.each j lt
      ∙ ap (r.next (now_in us k u)) (inputs-same (now_in us k) (now_in us k) (turned_in r.first us k column u j)
      (value_in r.first us new j) (neighbours_seen r.side v u) (λ y h. (refl, value-turned j y (omega (arith, lt))))))

  -- what was told
  told-at : (x : User) → get_or new.told (place us x) None ≡ (if same_user x u then None else get_or k.told (place us x) None)
  told-at x = over.told.1 (place us x) ∙ ap (λ (b : Bool). if b then None else get_or k.told (place us x) None) (same-place x)

  tells : told_in us new u ≡ now_in us k u
  tells = ap (λ (o : Option Facts). unwrap_or o (now_in us new u)) (told-at u ∙ ap (λ (b : Bool). if b then None else get_or k.told
      (place us u) None) (same_user-refl u)) ∙ now-same u

  told-other : (x : User) → same_user u x ≡ false → get_or new.told (place us x) None ≡ get_or k.told (place us x) None
  told-other x apart = told-at x ∙ ap (λ (b : Bool). if b then None else get_or k.told (place us x) None) (same_user-sym x u ∙ apart)

  -- who is active
  reads : (x : User) (j : ℕ) → (has_place readers (place us x) && is_from from j) ≡ (has_user (net.readers u) x && is_from from j)
  reads x j = ap (λ (ns : List ℕ). has_place ns (place us x) && is_from from j) are ∙ here from
    where
      off : (b : Bool) → (b && false) ≡ false
      off true = refl
      off false = refl

      here : (o : Option ℕ) → (has_place (if is_some o then places_of us (neighbours_seen (opposite r.side) v u) else [])
          (place us x) && is_from o j) ≡ (has_user (neighbours_seen (opposite r.side) v u) x && is_from o j)
      here None = sym (off (has_user (neighbours_seen (opposite r.side) v u) x))
      here (Some l) = ap (λ (b : Bool). b && is_from (Some l) j)
          (ap (λ (ns : List ℕ). has_place ns (place us x)) (places-there us (neighbours_seen (opposite r.side) v u)
          (readers-there r top v us k on u)) ∙ places-has us (neighbours_seen (opposite r.side) v u) x (readers-there r top v us k on u))

  active-other : (j : ℕ) (x : User) → same_user u x ≡ false → active_at us new j x
      ≡ (active_at us k j x || (has_user (net.readers u) x && is_from from j))
  active-other j x apart =
      over.low (place us x) j ∙ (ap (λ (b : Bool). if b then false else active_at us k j x || (has_place readers
      (place us x) && is_from from j)) (same-place x ∙ (same_user-sym x u ∙ apart))
      ∙ ap (λ (b : Bool). active_at us k j x || b) (reads x j))

  low-none : low_in us new u ≡ None
  low-none = ap (λ (n : ℕ). get_or new.low n None) at ∙ over.none

  told-none : get_or new.told (place us u) None ≡ None
  told-none = told-at u ∙ ap (λ (b : Bool). if b then None else get_or k.told (place us u) None) (same_user-refl u)

  pub turned-quiet : is_active us new u ≡ false
  turned-quiet = ap₂ (λ (a : Option ℕ) (b : Option Facts). is_some a || is_some b) low-none told-none

  and-off : (a b : Bool) → (a && b) ≡ false → a ≡ true → b ≡ false
  and-off true b h e = h
  and-off false b h e = absurd cc

  shown-not : (j : ℕ) → j < top → is_from from (suc j) ≡ false → shows r (told_in us k u) (now_in us k u) true
      (value_in r.first us k j u) (value_in r.first us new j u) ≡ false
  shown-not j lt off =
      ap (λ (w : V). shows r (told_in us k u) (now_in us k u) true (value_in r.first us k j u) w) (own-value j (omega (arith, lt)))
      ∙ hidden j lt (ap (is_from from) (add-one j) ∙ off)

  is-turn : IsTurn r net top u before after
  is-turn = record {
    others = other-value;
    first = refl;
    own = at-rest;
    tells = tells;
    tell = λ x apart. ap₂ (λ (o : Option Facts) (f : Facts). unwrap_or o f) (told-other x apart) (now-same x);
    still = λ x apart. ap (λ (o : Option Facts). is_some o) (told-other x apart);
    mixed = over.mixed;
    quiet = λ j x lt apart off. quiet j x lt apart (or_parts (active_at us k (suc j) x) (has_user (net.readers u) x && is_from from
        (suc j)) (sym (active-other (suc j) x apart) ∙ off));
  }
    where
      quiet : (j : ℕ) (x : User) → j < top → same_user u x ≡ false → (active_at us k (suc j) x ≡ false)
          × ((has_user (net.readers u) x && is_from from (suc j)) ≡ false)
          → (active_at us k (suc j) x ≡ false) × ((has_user (net.readers u) x ≡ false)
          ⊎ (shows r (told_in us k u) (now_in us k u) true (value_in r.first us k j u) (value_in r.first us new j u) ≡ false))
      quiet j x lt apart both = (both.0, here (has_user (net.readers u) x) refl)
        where
          here : (b : Bool) → has_user (net.readers u) x ≡ b → (has_user (net.readers u) x ≡ false)
              ⊎ (shows r (told_in us k u) (now_in us k u) true (value_in r.first us k j u) (value_in r.first us new j u) ≡ false)
          here false e = inl e
          here true e = inr (shown-not j lt (and-off (has_user (net.readers u) x) (is_from from (suc j)) both.1 e))

  -- the facts of now are as they were, as a path between the lists
  net-same : net_in r.side v us new ≡ net
  net-same = λ t. record {
    inputs = neighbours_seen r.side v;
    readers = neighbours_seen (opposite r.side) v;
    facts = λ x. get_or
        (over.facts t) (place us x) (blank x);
  }

  pub turned-on : On r top v us new
  turned-on = record {
    joined = record { both = on.joined.both; named = λ y. ap (λ (f : Facts). f.user) (now-same y) ∙ on.joined.named y };
    within = on.within;
    facts = λ y. subst (λ (f : Facts). AreSameFacts f (facts_seen v y)) (sym (now-same y)) (on.facts y);
    stands = subst (λ (n : PullNet). IsStanding r n top after) (sym net-same)
        (turn-law V r net top u before after laws on.joined on.stands is-turn);
  }

  pub turned-rested : IsRested r (net_in r.side v us new) top after u
  turned-rested = subst (λ (n : PullNet). IsRested r n top after u) (sym net-same) at-rest

  pub turned-moved : IsMoved net top u before after
  turned-moved = record {
    values = other-value;
    fresh = λ x h. fresh x h (same_user u x) refl;
    pairs = λ j x le h. pairs j x le h (same_user u x) refl;
  }
    where
      fresh : (x : User) → is_fresh us new x ≡ true → (b : Bool) → same_user u x ≡ b → (is_fresh us k x ≡ true) × (same_user u x ≡ false)
      fresh x h true e = absurd (both_ways (is_fresh us new x) (subst (λ (y : User). is_fresh us new y
          ≡ false) (same_user-true u x e) (ap (λ (o : Option Facts). is_some o) told-none)) h)
      fresh x h false e = (sym (ap (λ (o : Option Facts). is_some o) (told-other x e)) ∙ h, e)

      why : (o : Option ℕ) (j : ℕ) → from ≡ o → is_from o j ≡ true → (is_fresh us k u ≡ true) ⊎ ((l : ℕ) × (l ≤ top)
          × (value_in r.first us new l u ≢ value_in r.first us k l u))
      why None j e h = absurd cc
      why (Some l) j e h = here (is_fresh us k u) refl (subst (λ (o : Option ℕ). IfSome o (λ q. (m : ℕ) × (q ≡ m + 1) × (m < top)
          × (shows_turned r us k column u m ≡ true))) e shown)
        where
          here : (b : Bool) → is_fresh us k u ≡ b → (m : ℕ) × (l ≡ m + 1) × (m < top) × (shows_turned r us k column u m ≡ true)
              → (is_fresh us k u ≡ true) ⊎ ((q : ℕ) × (q ≤ top) × (value_in r.first us new q u ≢ value_in r.first us k q u))
          here true f s = inl f
          here false f s =
              let le : s.0 ≤ top = omega (arith, s.2) in
              inr (
                s.0,
                le,
                λ same. both_ways (shows_turned r us k column u s.0)
                    (shows-none r laws (told_in us k u) (now_in us k u) true (value_in r.first us k s.0 u) (column_at r.first column s.0)
                    (on.stands.known u f) (sym (sym (own-value s.0 le) ∙ same))) s.3,
              )

      pairs : (j : ℕ) (x : User) → j ≤ top → active_at us new j x ≡ true → (b : Bool) → same_user u x ≡ b
          → ((active_at us k j x ≡ true) × (same_user u x ≡ false))
          ⊎ ((has_user (net.readers u) x ≡ true) × ((is_fresh us k u ≡ true) ⊎ ((l : ℕ) × (l ≤ top)
          × (value_in r.first us new l u ≢ value_in r.first us k l u))))
      pairs j x le h true e = absurd (both_ways (active_at us new j x) (subst (λ (y : User). active_at us new j y
          ≡ false) (same_user-true u x e) (ap (λ (o : Option ℕ). is_from o j) low-none)) h)
      pairs j x le h false e = here (or_cases (active_at us k j x) (has_user (net.readers u) x && is_from from j) (sym
          (active-other j x e) ∙ h))
        where
          here : (active_at us k j x ≡ true) ⊎ ((has_user (net.readers u) x && is_from from j) ≡ true)
              → ((active_at us k j x ≡ true) × (same_user u x ≡ false))
              ⊎ ((has_user (net.readers u) x ≡ true) × ((is_fresh us k u ≡ true) ⊎ ((l : ℕ) × (l ≤ top)
              × (value_in r.first us new l u ≢ value_in r.first us k l u))))
          here (inl a) = inl (a, e)
          here (inr a) = let both = and_parts (has_user (net.readers u) x) (is_from from j) a in inr (both.0, why from j refl both.1)

-- the value above of the turning user
pub turned-next : {V : Type 0} (r : LayerRule V) (top : ℕ) (v : PartView) (us : List User) (k : KeptView V) → IsKept top us k
    → On r top v us k → (u : User) (i : ℕ) → place us u ≡ i → i < length us → (first : V) → first ≡ r.first
    → (column : List V) (n : ℕ) (row : List ℕ)
    → row ≡ places_of us (neighbours_seen r.side v u) → (value : V) → value ≡ r.next (get_or k.facts i (blank u)) (map (turned_input
    (blank u) first k column i n) row) → value ≡ next_of r (net_in r.side v us k) (turned_in r.first us k column u n) u
turned-next {V} r top v us k kept on u i at lt first the column n row row-is value is =
    let there = there-at us u (subst (λ (m : ℕ). m < length us) (sym at) lt) in
    let within = inputs-there r top v us k on u in
    let own : get_or k.facts i (blank u) ≡ now_in us k u = ap (λ (m : ℕ). get_or k.facts m (blank u)) (sym at) in
    let inputs : map (turned_input (blank u) first k column i n) row ≡ inputs_of (now_in us k) (turned_in r.first us k column u n)
    (neighbours_seen r.side v u)
    = ap₂ (λ (f : V) (ns : List ℕ). map (turned_input (blank u) f k column i n) ns) the (row-is
    ∙ places-there us (neighbours_seen r.side v u) within)
    ∙ turned-inputs r.first us k column u i n (blank u) (neighbours_seen r.side v u) kept.facts there at within in
    is ∙ ap₂ (λ (f : Facts) (is : List (Input V)). r.next f is) own inputs

-- who is none of the users isn't active
pub away-quiet : {V : Type 0} (us : List User) (k : KeptView V) (u : User) → length k.told ≡ length us → length k.low ≡ length us
    → has_user us u ≡ false → is_active us k u ≡ false
away-quiet us k u told low none = ap₂ (λ (a : Option ℕ) (b : Option Facts). is_some a || is_some b) (past-last us k.low u None low none)
    (past-last us k.told u None told none)

-- places of readers are below the length
readers-below : (us ys : List User) (o : Option ℕ) (row : List ℕ) → row ≡ (if is_some o then places_of us ys else []) → (n : ℕ)
    → n ≡ length us → All (λ p. p < n) row
readers-below us ys None row e n long = subst (λ (ns : List ℕ). All (λ p. p < n) ns) (sym e) (λ p d lt. absurd (omega (arith, lt)))
readers-below us ys (Some l) row e n long = ends-below us ys row e n long

pub planned-below : {V : Type 0} (r : LayerRule V) (top : ℕ) (v : PartView) (us : List User) (k : KeptView V) (u : User)
    (plan inside : TurnPlanView V) → inside ≡ plan → IsTurnPlan r top v us k u plan → (readers : List ℕ) → readers ≡ inside.readers
    → (n : ℕ) → n ≡ length us → All (λ p. p < n) readers
planned-below {V} r top v us k u plan inside view is readers same n long = readers-below us (neighbours_seen (opposite r.side) v u) plan.from
    readers (same ∙ (ap (λ (p : TurnPlanView V). p.readers) view ∙ is.readers)) n long

-- what is kept once a turn is made
pub record IsMade {V : Type 0} (r : LayerRule V) (top : ℕ) (v : PartView) (us : List User) (u : User) (plan : TurnPlanView V)
    (k new : KeptView V) : Type 0 where
  pub on : On r top v us new
  pub rested : IsRested r (net_in r.side v us new) top (keeping r.first us new) u
  pub moved : IsMoved (net_in r.side v us k) top u (keeping r.first us k) (keeping r.first us new)
  pub row : (j p : ℕ) (d : V) → get_or (row_in new j) p d
      ≡ (if eqb p (place us u) then unwrap_or (planned_value plan j) d else get_or (row_in k j) p d)

module _ {V : Type 0} (r : LayerRule V) (top : ℕ) (v : PartView) (us : List User) (k : KeptView V) (kept : IsKept top us k) (u : User)
    (plan : TurnPlanView V) (is : IsTurnPlan r top v us k u plan) (readers : List ℕ) (new : KeptView V)
    (over : IsTurnedOver plan.place plan.column plan.from readers k new) where
  either : {X : Type 0} (b : Bool) (x : X) → x ≡ (if b then x else x)
  either true x = refl
  either false x = refl

  -- rows past the last layer
  past-row : (j : ℕ) → top ≤ j → (p : ℕ) (d : V) → get_or (get_or new.rows j []) p d
      ≡ (if eqb p (place us u) then unwrap_or (slice_get plan.column j) d else get_or (get_or k.rows j []) p d)
  past-row j le p d =
      let a : length new.rows ≤ j = omega (arith, le, over.rows, kept.layers) in
      let b : length k.rows ≤ j = omega (arith, le, kept.layers) in
      let c : length plan.column ≤ j = omega (arith, le, is.column.long) in
      ap (λ (row : List V). get_or row p d) (get_or_past new.rows j [] a) ∙ (either (eqb p (place us u)) d
      ∙ ap₂ (λ (x y : V). if eqb p (place us u) then x else y) (sym (unwrap_or-slice_get plan.column j d ∙ get_or_past plan.column j d c))
      (sym (ap (λ (row : List V). get_or row p d) (get_or_past k.rows j [] b))))

  -- places past the last user
  past-place : (j : ℕ) → j < top → (p : ℕ) (d : V) → length us ≤ p → get_or (get_or new.rows j []) p d
      ≡ (if eqb p (place us u) then unwrap_or (slice_get plan.column j) d else get_or (get_or k.rows j []) p d)
  past-place j lt p d le =
      let a : length (get_or new.rows j []) ≤ p = omega (arith, le, over.longs j, kept.rows j lt) in
      let b : length (get_or k.rows j []) ≤ p = omega (arith, le, kept.rows j lt) in
      let apart : eqb p (place us u) ≡ false = let at = is.at in let within = is.within in grind (arith, nat_tests, at, within, le) in
      get_or_past (get_or new.rows j []) p d a ∙ (sym (get_or_past (get_or k.rows j []) p d b)
      ∙ sym (ap (λ (b : Bool). if b then unwrap_or (slice_get plan.column j) d else get_or (get_or k.rows j []) p d) apart))

  pub turned-row : (j p : ℕ) (d : V) → get_or (row_in new j) p d
      ≡ (if eqb p (place us u) then unwrap_or (planned_value plan j) d else get_or (row_in k j) p d)
  turned-row zero p d = either (eqb p (place us u)) d
  turned-row (suc j) p d = here (nat_lt j top) refl (nat_lt p (length us)) refl
    where
      here : (b : Bool) → nat_lt j top ≡ b → (c : Bool) → nat_lt p (length us) ≡ c → get_or (get_or new.rows j []) p d
          ≡ (if eqb p (place us u) then unwrap_or (slice_get plan.column j) d else get_or (get_or k.rows j []) p d)
      here false e c h = past-row j (grind (arith, nat_tests, e)) p d
      here true e false h = past-place j (grind (arith, nat_tests, e)) p d (grind (arith, nat_tests, h))
      here true e true h =
          let lt : j < top = grind (arith, nat_tests, e) in
          let below : p < length us = grind (arith, nat_tests, h) in
          over.each j p d (omega (arith, lt, kept.layers)) (omega (arith, below, kept.rows j lt))
          ∙ ap₂ (λ (n : ℕ) (x : V). if eqb p n then x else get_or (get_or k.rows j []) p d) is.at
          (sym (unwrap_or-slice_get plan.column j d))

pub turn-made : {V : Type 0} (r : LayerRule V) → IsLayerRule r → (top : ℕ) (v : PartView) (us : List User) (k : KeptView V)
    → IsKept top us k → On r top v us k → (u : User) (plan inside : TurnPlanView V) → inside ≡ plan → IsTurnPlan r top v us k u plan
    → (readers : List ℕ) → readers ≡ inside.readers → (new : KeptView V)
    → IsTurnedOver inside.place inside.column inside.from readers k new → IsMade r top v us u plan k new
turn-made {V} r laws top v us k kept on u plan inside view is readers same new over =
    let i = plan.place in
    let column = plan.column in
    let from = plan.from in
    let at = sym is.at in
    let are = same ∙ (ap (λ (n : TurnPlanView V). n.readers) view ∙ is.readers) in
    let turned = subst (λ (n : TurnPlanView V). IsTurnedOver n.place n.column n.from readers k new) view over in
    record {
      on = turned-on r laws top v us k kept on u i at is.within column is.column from is.hidden is.shown readers are new turned;
      rested = turned-rested r laws top v us k kept on u i at is.within column is.column from is.hidden is.shown readers are new turned;
      moved = turned-moved r laws top v us k kept on u i at is.within column is.column from is.hidden is.shown readers are new turned;
      row = turned-row r top v us k kept u plan is readers new turned;
    }
