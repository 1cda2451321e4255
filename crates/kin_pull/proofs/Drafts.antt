-- Drafts of layers, and what is kept after one was taken over.
use Rattle.std.proofs.Common.{◌≡◌, ◌<◌, ◌≤◌, ◌+◌, ◌∙◌, inl, ◌||◌, nat_lt, add-one, ℕ, zero, suc, Bool, true, false, List, [], ◌∷◌, ◌++◌}
use Rattle.std.proofs.Common.{length, get_or, Option, is_some, unwrap_or, arith, refl, sym, ap, ap₂, subst}
use Rattle.std.proofs.lemmas.Bool.Decides.{nat_tests}
use Rattle.std.proofs.lemmas.List.{get_or_append_left, get_or_push, length_push, get_or_past}
use Rattle.kin_ids.specs.declared.ids.User.{User}
use Rattle.kin_ids.specs.Parts.{PartView}
use Rattle.kin_rules.specs.declared.pull_rules.Facts.{Facts}
use Rattle.kin_rules.specs.Layers.{LayerRule, IsLayerRule, AreSameFacts, blank, inputs_of}
use Rattle.kin_rules.specs.LayerTables.{facts_seen, neighbours_seen}
use Rattle.kin_rules.specs.Places.{place}
use Rattle.kin_pull.specs.Keeping.{PullNet, layer_in}
use Rattle.kin_pull.specs.Passes.{IsDraft, IsTaken, drawn_in}
use Rattle.kin_pull.specs.Settles.{IsPassed, changes, is_due}
use Rattle.kin_pull.specs.States.{KeptView, row_of, IsKept, On, IsQuiet, value_in, now_in, told_in, keeping, net_in}
use Rattle.kin_pull.proofs.Standing.{inputs-same, pass-law}

module _ {V : Type 0} (r : LayerRule V) (v : PartView) (us : List User) (k : KeptView V) where
  abbrev net : PullNet
  net = net_in r.side v us k

  -- nothing yet
  pub draft-start : (draft : List (List (Option V))) → draft ≡ [] → IsDraft r v us k 0 draft
  draft-start draft e = subst (λ (d : List (List (Option V))). IsDraft r v us k 0 d) (sym e) (record {
    long = refl;
    rows = λ j lt. absurd (omega (arith, lt));
    each = λ j x le. here j x le;
  })
    where
      here : (j : ℕ) (x : User) → j ≤ 0 → drawn_in r.first us k j (row_of [] j) x ≡ layer_in r net j x
      here zero x le = refl
      here (suc j) x le = absurd (omega (arith, le))

  -- one layer more
  module _ (laws : IsLayerRule r) (top : ℕ) (on : On r top v us k) (n : ℕ) (below : n < top) (draft : List (List (Option V)))
      (above : List (Option V)) (old : IsDraft r v us k n draft) (long : length above ≡ length us)
      (passed : IsPassed r net (keeping r.first us k) us n (drawn_in r.first us k n (row_of draft n)) (drawn_in r.first us k
      (n + 1) above)) where
    abbrev grown : List (List (Option V))
    grown = draft ++ above ∷ []

    last : get_or grown n [] ≡ above
    last = get_or_push draft above [] n old.long

    lower : (j : ℕ) → j < n → get_or grown j [] ≡ get_or draft j []
    lower j lt = get_or_append_left draft (above ∷ []) [] j (subst (λ (m : ℕ). j < m) (sym old.long) lt)

    lower-row : (j : ℕ) → j ≤ n → row_of grown j ≡ row_of draft j
    lower-row zero le = refl
    lower-row (suc j) le = lower j (omega (arith, le))

    top-layer : (x : User) → drawn_in r.first us k (suc n) above x ≡ layer_in r net (suc n) x
    top-layer x =
        ap (λ (m : ℕ). drawn_in r.first us k m above x) (sym (add-one n))
        ∙ pass-law V r net top (keeping r.first us k) us n (drawn_in r.first us k n (row_of draft n)) (drawn_in r.first us k
        (n + 1) above) laws on.joined
        (λ y z h. (on.within y z h).1) on.stands below passed (λ y. old.each n y (omega arith)) x

    rows : (j : ℕ) → j < n + 1 → (b : Bool) → nat_lt j n ≡ b → length (get_or grown j []) ≡ length us
    rows j lt true e = let less : j < n = grind (arith, nat_tests, e) in ap (λ (d : List (Option V)). length d) (lower j less)
        ∙ old.rows j less
    rows j lt false e = let same : n ≡ j = grind (arith, nat_tests, e, lt) in subst (λ (m : ℕ). length (get_or grown m [])
        ≡ length us) same (ap (λ (d : List (Option V)). length d) last ∙ long)

    each : (j : ℕ) (x : User) → j ≤ n + 1 → (b : Bool) → nat_lt n j ≡ b → drawn_in r.first us k j (row_of grown j) x ≡ layer_in r net j x
    each j x le false e = let less : j ≤ n = grind (arith, nat_tests, e) in ap (λ (d : List (Option V)). drawn_in r.first us k j d x)
        (lower-row j less) ∙ old.each j x less
    each j x le true e = let same : suc n ≡ j = grind (arith, nat_tests, e, le) in
        subst (λ (m : ℕ). drawn_in r.first us k m (row_of grown m) x ≡ layer_in r net m x) same (ap (λ (d : List
        (Option V)). drawn_in r.first us k (suc n) d x) last ∙ top-layer x)

    draft-next : IsDraft r v us k (n + 1) grown
    draft-next = record {
      long = length_push draft above ∙ ap (λ (m : ℕ). m + 1) old.long;
      rows = λ j lt. rows j lt (nat_lt j n) refl;
      each = λ j x le. each j x le (nat_lt n j) refl;
    }

    pub draft-grown : (is : List (List (Option V))) → is ≡ draft ++ above ∷ [] → IsDraft r v us k (n + 1) is
    draft-grown is e = subst (λ (d : List (List (Option V))). IsDraft r v us k (n + 1) d) (sym e) draft-next

    same-layer : drawn_in r.first us k n (row_of draft n) ≡ layer_in r net n
    same-layer = λ i x. old.each n x (omega arith) i

    -- whose change shows, and who is due, by the rule's layer
    pub changes-grown : (x : User) → changes r net (keeping r.first us k) n (drawn_in r.first us k n (row_of draft n)) x
        ≡ changes r net (keeping r.first us k) n (layer_in r net n) x
    changes-grown x = ap (λ (f : User → V). changes r net (keeping r.first us k) n f x) same-layer

    pub due-grown : (x : User) → is_due r net (keeping r.first us k) us n (drawn_in r.first us k n (row_of draft n)) x
        ≡ is_due r net (keeping r.first us k) us n (layer_in r net n) x
    due-grown x = ap (λ (f : User → V). is_due r net (keeping r.first us k) us n f x) same-layer

  -- a whole draft is no longer than what is kept
  module _ (top : ℕ) (kept : IsKept top us k) (draft : List (List (Option V))) (is : IsDraft r v us k top draft) where
    pub draft-layers : length draft ≤ length k.rows
    draft-layers = omega (arith, is.long, kept.layers)

    pub draft-long : (j : ℕ) → length (get_or draft j []) ≤ length (get_or k.rows j [])
    draft-long j = here (nat_lt j top) refl
      where
        here : (b : Bool) → nat_lt j top ≡ b → length (get_or draft j []) ≤ length (get_or k.rows j [])
        here true e = let lt : j < top = grind (arith, nat_tests, e) in omega (arith, is.rows j lt, kept.rows j lt)
        here false e =
            let past : length draft ≤ j = grind (arith, nat_tests, e, is.long) in
            let none : length (get_or draft j []) ≡ 0 = ap (λ (d : List (Option V)). length d) (get_or_past draft j [] past) in
            omega (arith, none)

  -- what is kept after it was taken over
  module _ (laws : IsLayerRule r) (top : ℕ) (kept : IsKept top us k) (on : On r top v us k) (draft : List (List (Option V)))
      (is : IsDraft r v us k top draft) (new : KeptView V) (taken : IsTaken draft k new) where
    pub taken-kept : IsKept top us new
    taken-kept = record {
      ascend = kept.ascend;
      layers = taken.rows ∙ kept.layers;
      rows = λ j lt. taken.longs j ∙ kept.rows j lt;
      facts = ap (λ (fs : List Facts). length fs) taken.facts ∙ kept.facts;
      told = taken.told.0 ∙ kept.told;
      low = taken.low.0 ∙ kept.low;
    }

    pub taken-value : (j : ℕ) (x : User) → j ≤ top → value_in r.first us new j x ≡ layer_in r net j x
    taken-value zero x le = refl
    taken-value (suc j) x le = taken.each j (place us x) r.first ∙ is.each (suc j) x le

    taken-now : (x : User) → now_in us new x ≡ now_in us k x
    taken-now x = ap (λ (fs : List Facts). get_or fs (place us x) (blank x)) taken.facts

    taken-told : (x : User) → told_in us new x ≡ now_in us new x
    taken-told x = ap (λ (o : Option Facts). unwrap_or o (now_in us new x)) (taken.told.1 (place us x))

    pub taken-quiet : IsQuiet us new
    taken-quiet x = ap₂ (λ (a : Option ℕ) (b : Option Facts). is_some a || is_some b) (taken.low.1 (place us x)) (taken.told.1 (place us x))

    pub taken-on : On r top v us new
    taken-on = record {
      joined = record { both = on.joined.both; named = λ y. ap (λ (f : Facts). f.user) (taken-now y) ∙ on.joined.named y };
      within = on.within;
      facts = λ y. subst (λ (f : Facts). AreSameFacts f (facts_seen v y)) (sym (taken-now y)) (on.facts y);
      stands = record {
        first = λ x. refl;
        named = λ y. ap (λ (f : Facts). f.user) (taken-told y ∙ taken-now y) ∙ on.joined.named y;
        known = λ y off. taken-told y;
        rest = λ j x below off. record {
          chosen = told_in us new;
          of = λ y. inl refl;
          value = taken-value (suc j) x (omega (arith, below))
              ∙ (ap (λ (f : Facts). r.next f (inputs_of (now_in us k) (layer_in r net j) (neighbours_seen r.side v x))) (sym (taken-now x))
              ∙ ap (r.next (now_in us new x)) (inputs-same (now_in us k) (told_in us new) (layer_in r net j) (value_in r.first us new j)
              (neighbours_seen r.side v x)
              (λ y i. (sym (taken-told y ∙ taken-now y), sym (taken-value j y (omega (arith, below)))))));
        };
      };
    }

-- the same of a plan
pub draft-entered : {V : Type 0} (r : LayerRule V) (v : PartView) (us : List User) (k : KeptView V) → IsLayerRule r → (top : ℕ)
    → IsKept top us k → On r top v us k → (plan draft : List (List (Option V))) → draft ≡ plan → IsDraft r v us k top plan
    → (new : KeptView V) → IsTaken draft k new → On r top v us new
draft-entered {V} r v us k laws top kept on plan draft same is new taken = taken-on r v us k laws top kept on draft
    (subst (λ (d : List (List (Option V))). IsDraft r v us k top d) (sym same) is) new taken
