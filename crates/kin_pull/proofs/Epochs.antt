-- What an epoch begins with, and what quiet layers are.
use Rattle.std.proofs.Common.{◌≡◌, ◌<◌, ◌≤◌, ◌+◌, ◌∙◌, ◌⊎◌, inl, inr, ◌&&◌, ◌||◌, not, nat_lt, ℕ, zero, suc, Bool, true, false, List, []}
use Rattle.std.proofs.Common.{◌∷◌, length, Option, Some, None, is_some, get_or, unwrap_or, if◌then◌else◌, arith, refl, sym, subst, ap, ap₂}
use Rattle.std.specs.List.{list_any, count_by}
use Rattle.std.specs.List.Sorted.{IsPermutation}
use Rattle.std.proofs.lemmas.Bool.{or_parts, both_ways}
use Rattle.std.proofs.lemmas.Bool.Decides.{nat_tests}
use Rattle.std.proofs.lemmas.List.Sorted.{IsPermutation-refl, IsPermutation-sym, IsPermutation-trans, IsPermutation-map}
use Rattle.std.proofs.lemmas.List.{get_or_past}
use Rattle.kin_ids.specs.declared.ids.User.{User}
use Rattle.kin_ids.specs.declared.ops.Half.{Half}
use Rattle.kin_ids.specs.Users.{has_user}
use Rattle.kin_ids.specs.Graph.{Graph}
use Rattle.kin_ids.specs.Parts.{PartView}
use Rattle.kin_ids.specs.Wholes.{IsViewOf}
use Rattle.kin_graph.specs.Deltas.{DeltaLists}
use Rattle.kin_graph.specs.Views.{AreVertices}
use Rattle.kin_changes.specs.Views.{AreLed, empty_view}
use Rattle.kin_rules.specs.declared.pull_rules.Side.{Side}
use Rattle.kin_rules.specs.declared.pull_rules.Side.TheVariants as side
use Rattle.kin_rules.specs.declared.pull_rules.Facts.{Facts}
use Rattle.kin_rules.specs.declared.pull_rules.Input.{Input}
use Rattle.kin_rules.specs.Layers.{LayerRule, IsLayerRule, AreSameFacts, AreSameInputs, blank, inputs_of, layer_of, facts_of, neighbours}
use Rattle.kin_rules.specs.LayerTables.{present_ends, facts_seen, neighbours_seen}
use Rattle.kin_pull.specs.Begins.{IsBegun, BeginLaw, EmptyLaw, LayersLaw, ReadsLaw, facts_after, is_touched, is_rewired, is_started, differs, is_again}
use Rattle.kin_pull.specs.Begins.{epoch_reads}
use Rattle.kin_pull.specs.Keeping.{PullNet, Keeping, IsJoined, IsStanding, layer_in, shows}
use Rattle.kin_pull.proofs.WasRead.{ever-same, sum-ever, sum-none}
use Rattle.kin_pull.specs.Settles.{sum_over, reads_on, changes, is_due, settle_reads}
use Rattle.kin_pull.specs.States.{KeptView, IsKept, On, IsQuiet, QuietLaw, ViewLaw, value_in, now_in, told_in, is_fresh, is_from, low_in}
use Rattle.kin_pull.specs.States.{active_at, keeping, net_in, opposite}
use Rattle.kin_pull.proofs.Standing.{inputs-same, idle-layers, at-rest}
use Rattle.kin_pull.proofs.Views.{ends-both, neighbour-vertices, inputs-permuted, facts-led, facts-still}

-- who isn't active is neither fresh nor active at a layer
none-from : (o : Option ℕ) (j : ℕ) → is_some o ≡ false → is_from o j ≡ false
none-from None j h = refl
none-from (Some l) j h = absurd cc

pub quiet-fresh : {V : Type 0} (us : List User) (k : KeptView V) → IsQuiet us k → (x : User) → is_fresh us k x ≡ false
quiet-fresh us k quiet x = (or_parts (is_some (low_in us k x)) (is_fresh us k x) (quiet x)).1

pub quiet-low : {V : Type 0} (us : List User) (k : KeptView V) → IsQuiet us k → (j : ℕ) (x : User) → active_at us k j x ≡ false
quiet-low us k quiet j x = none-from (low_in us k x) j (or_parts (is_some (low_in us k x)) (is_fresh us k x) (quiet x)).0

pub quiet-law : (V : Type 0) → QuietLaw V
quiet-law V r top v us k laws on quiet j x le =
    idle-layers r laws (net_in r.side v us k) on.joined top (keeping r.first us k) on.stands (quiet-fresh us k quiet)
    (λ i y below. quiet-low us k quiet (suc i) y) j x le

-- layers over a view of a graph
neighbours-whole : (g : Graph) (v : PartView) → IsViewOf g v → (s : Side) (x : User) → neighbours_seen s v x ≡ neighbours s g x
neighbours-whole g v whole side.In x = ap (λ (hs : List Half). present_ends hs) (whole.inn x)
neighbours-whole g v whole side.Out x = ap (λ (hs : List Half). present_ends hs) (whole.out x)

facts-whole : (g : Graph) (v : PartView) → IsViewOf g v → (x : User) (f : Facts) → AreSameFacts f (facts_seen v x)
    → AreSameFacts f (facts_of g x)
facts-whole g v whole x f same = record {
  user = same.user;
  following = same.following ∙ ap (λ (hs : List Half). count_by (λ h. h.present) hs) (whole.out x);
  uses = IsPermutation-trans _ _ _ same.uses (whole.uses x);
}

same-inputs : {V : Type 0} (c d : User → Facts) (f h : User → V) (ys : List User) → ((y : User) → AreSameFacts (c y) (d y))
    → ((y : User) → f y ≡ h y) → AreSameInputs (inputs_of c f ys) (inputs_of d h ys)
same-inputs c d f h [] facts same = tt
same-inputs c d f h (y ∷ ys) facts same = (facts y, same y, same-inputs c d f h ys facts same)

module _ {V : Type 0} (r : LayerRule V) (laws : IsLayerRule r) (top : ℕ) (g : Graph) (v : PartView) (whole : IsViewOf g v)
    (us : List User) (k : KeptView V) (on : On r top v us k) where
  facts-graph : (y : User) → AreSameFacts (now_in us k y) (facts_of g y)
  facts-graph y = facts-whole g v whole y (now_in us k y) (on.facts y)

  layers-graph : (j : ℕ) (x : User) → layer_in r (net_in r.side v us k) j x ≡ layer_of r g j x
  layers-graph zero x = refl
  layers-graph (suc j) x =
      ap (λ (ys : List User). r.next (now_in us k x) (inputs_of (now_in us k) (layer_in r (net_in r.side v us k) j) ys))
      (neighbours-whole g v whole r.side x)
      ∙ laws.use_order (now_in us k x) (facts_of g x) (inputs_of (now_in us k) (layer_in r (net_in r.side v us k) j)
      (neighbours r.side g x)) (inputs_of (facts_of g) (layer_of r g j) (neighbours r.side g x)) (facts-graph x)
      (same-inputs (now_in us k) (facts_of g) (layer_in r (net_in r.side v us k) j) (layer_of r g j) (neighbours r.side g x) facts-graph
      (layers-graph j))

pub view-law : (V : Type 0) → ViewLaw V
view-law V r top g v us k laws whole on = layers-graph r laws top g v whole us k on

-- the next net
pub record IsNext {V : Type 0} (r : LayerRule V) (old net : PullNet) (top : ℕ) (e new : Keeping V) : Type 0 where
  pub layers : (j : ℕ) (x : User) → new.layers j x ≡ e.layers j x
  pub told : (y : User) → new.told y ≡ old.facts y
  pub facts : (y : User) → new.fresh y ≡ false → net.facts y ≡ old.facts y
  pub inputs : (j : ℕ) (x : User) → j < top → new.active (suc j) x ≡ false → IsPermutation (old.inputs x) (net.inputs x)
      × ((net.facts x ≡ old.facts x) ⊎ (r.own_alike (old.facts x) (net.facts x) ≡ true))

pub next-stands : {V : Type 0} (r : LayerRule V) → IsLayerRule r → (old net : PullNet) → IsJoined old → (top : ℕ) (e new : Keeping V)
    → IsStanding r old top e
    → ((y : User) → e.fresh y ≡ false) → ((j : ℕ) (x : User) → j < top → e.active (suc j) x ≡ false) → IsNext r old net top e new
    → IsStanding r net top new
next-stands {V} r laws old net joined top e new stands none idle led = record {
  first = λ x. led.layers 0 x ∙ stands.first x;
  named = λ y. ap (λ (q : Facts). q.user) (led.told y) ∙ joined.named y;
  known = λ y off. led.told y ∙ sym (led.facts y off);
  rest = λ j x below off. record { chosen = new.told; of = λ y. inl refl; value = value j x below (led.inputs j x below off) };
}
  where
    own : (x : User) (xs : List (Input V)) → (net.facts x ≡ old.facts x) ⊎ (r.own_alike (old.facts x) (net.facts x) ≡ true)
        → r.next (old.facts x) xs ≡ r.next (net.facts x) xs
    own x xs (inl k) = ap (λ (q : Facts). r.next q xs) (sym k)
    own x xs (inr k) = laws.own (old.facts x) (net.facts x) xs k

    value : (j : ℕ) (x : User) → j < top → IsPermutation (old.inputs x) (net.inputs x)
        × ((net.facts x ≡ old.facts x) ⊎ (r.own_alike (old.facts x) (net.facts x) ≡ true))
        → new.layers (suc j) x ≡ r.next (net.facts x) (inputs_of new.told (new.layers j) (net.inputs x))
    value j x below q =
        led.layers (suc j) x
        ∙ (at-rest r laws old joined top e stands j x below (idle j x below) (λ y i. none y)
        ∙ (ap (r.next (old.facts x)) (inputs-same old.facts new.told (e.layers j) (new.layers j) (old.inputs x) (λ y i. (
          sym
              (led.told y),
          sym (led.layers j y),
        )))
        ∙ (laws.input_order (old.facts x) (inputs_of new.told (new.layers j) (old.inputs x)) (inputs_of new.told (new.layers j)
        (net.inputs x))
        (IsPermutation-map (λ (y : User). record { facts = new.told y; value = new.layers j y }) (old.inputs x) (net.inputs x) q.0)
        ∙ own x (inputs_of new.told (new.layers j) (net.inputs x)) q.1)))

not-false : (b : Bool) → not b ≡ false → b ≡ true
not-false true h = refl
not-false false h = absurd cc

and-second : (a b : Bool) → (a && b) ≡ false → a ≡ true → b ≡ false
and-second true b h k = h
and-second false b h k = absurd cc

-- an epoch begins
module _ {V : Type 0} (r : LayerRule V) (laws : IsLayerRule r) (top : ℕ) (was is : PartView) (ds : List DeltaLists)
    (led : AreLed was is ds) (us : List User) (before : KeptView V) (vs : List User) (after : KeptView V)
    (are : AreVertices is vs) (on : On r top was us before) (quiet : IsQuiet us before) (begun : IsBegun r ds us before vs after) where
  abbrev old : PullNet
  old = net_in r.side was us before

  abbrev net : PullNet
  net = net_in r.side is vs after

  -- who isn't active from layer 1 on isn't a start
  off-start : (j : ℕ) (x : User) → active_at vs after (suc j) x ≡ false → is_started r ds (now_in us before) x ≡ false
  off-start j x off = let positive : nat_lt 0 (suc j) ≡ true = grind (arith, nat_tests) in and-second (nat_lt 0 (suc j)) (is_started r ds
      (now_in us before) x) (sym (begun.active (suc j) x) ∙ off) positive

  same-facts : (y : User) → is_touched ds y ≡ false → now_in vs after y ≡ now_in us before y
  same-facts y off = begun.now y ∙ facts-still ds y (now_in us before y) off

  own-facts : (x : User) → is_started r ds (now_in us before) x ≡ false → (b : Bool) → is_touched ds x ≡ b
      → (now_in vs after x ≡ now_in us before x) ⊎ (r.own_alike (now_in us before x) (now_in vs after x) ≡ true)
  own-facts x off false k = inl (same-facts x k)
  own-facts x off true k =
      let parts = or_parts (is_rewired r.side ds x) (is_touched ds x && not (r.own_alike (now_in us before x) (facts_after ds x
      (now_in us before x)))) off in
      let alike = not-false (r.own_alike (now_in us before x) (facts_after ds x (now_in us before x))) (and-second
      (is_touched ds x) _ parts.1 k) in
      inr (ap (r.own_alike (now_in us before x)) (begun.now x) ∙ alike)

  is-next : IsNext r old net top (keeping r.first us before) (keeping r.first vs after)
  is-next = record {
    layers = begun.values;
    told = begun.told;
    facts = λ y off. same-facts y (sym (begun.fresh y) ∙ off);
    inputs = λ j x below off.
        let started = off-start j x off in
        let parts = or_parts (is_rewired r.side ds x) (is_touched ds x && not (r.own_alike (now_in us before x) (facts_after ds x
        (now_in us before x)))) started in
        (IsPermutation-sym _ _ (inputs-permuted was is ds led x r.side parts.0), own-facts x started (is_touched ds x) refl);
  }

  begins : On r top is vs after
  begins = record {
    joined = record {
      both = λ x y. ends-both is led.after r.side x y;
      named = λ y. ap (λ (f : Facts). f.user) (begun.now y) ∙ on.joined.named y;
    };
    within = λ x y h. let two = neighbour-vertices is led.after r.side x y h in (are.all x ∙ two.0, are.all y ∙ two.1);
    facts = λ y. subst (λ (f : Facts). AreSameFacts f (facts_seen is y)) (sym (begun.now y)) (facts-led was is ds led y
        (now_in us before y) (on.facts y));
    stands = next-stands r laws old net on.joined top (keeping r.first us before) (keeping r.first vs after) on.stands
        (quiet-fresh us before quiet) (λ j x below. quiet-low us before quiet (suc j) x) is-next;
  }

pub begin-law : (V : Type 0) → BeginLaw V
begin-law V r top was is ds us before vs after laws led are on quiet begun = begins r laws top was is ds led us before vs after are on
    quiet begun

-- nobody yet
get-none : {X : Type 0} (xs : List X) (i : ℕ) (d : X) → length xs ≡ 0 → get_or xs i d ≡ d
get-none [] i d e = refl
get-none (x ∷ xs) i d e = absurd (omega (arith, e))

no-neighbours : (s : Side) (x : User) → neighbours_seen s empty_view x ≡ []
no-neighbours side.In x = refl
no-neighbours side.Out x = refl

module _ {V : Type 0} (r : LayerRule V) (laws : IsLayerRule r) (top : ℕ) (k : KeptView V) (kept : IsKept top [] k) where
  row-none : (j : ℕ) → length (get_or k.rows j []) ≡ 0
  row-none j = here (nat_lt j top) refl
    where
      here : (b : Bool) → nat_lt j top ≡ b → length (get_or k.rows j []) ≡ 0
      here true e = kept.rows j (grind (arith, nat_tests, e))
      here false e = let le : length k.rows ≤ j = grind (arith, nat_tests, e, kept.layers) in ap (λ (vs : List V). length vs)
          (get_or_past k.rows j [] le)

  first-values : (j : ℕ) (x : User) → value_in r.first [] k j x ≡ r.first
  first-values zero x = refl
  first-values (suc j) x = get-none (get_or k.rows j []) 0 r.first (row-none j)

  blank-now : (x : User) → now_in [] k x ≡ blank x
  blank-now x = get-none k.facts 0 (blank x) kept.facts

  blank-told : (x : User) → told_in [] k x ≡ now_in [] k x
  blank-told x = ap (λ (o : Option Facts). unwrap_or o (now_in [] k x)) (get-none k.told 0 None kept.told)

  none-seen : (s : Side) (x y : User) → has_user (neighbours_seen s empty_view x) y ≡ false
  none-seen s x y = ap (λ (us : List User). has_user us y) (no-neighbours s x)

  empty-on : On r top empty_view [] k
  empty-on = record {
    joined = record {
      both = λ x y. none-seen r.side x y ∙ sym (none-seen (opposite r.side) y x);
      named = λ y. ap (λ (f : Facts). f.user) (blank-now y);
    };
    within = λ x y h. absurd (both_ways (has_user (neighbours_seen r.side empty_view x) y) (none-seen r.side x y) h);
    facts = λ y. subst (λ (f : Facts). AreSameFacts f (facts_seen empty_view y)) (sym (blank-now y))
        (record { user = refl; following = refl; uses = IsPermutation-refl [] });
    stands = record {
      first = λ x. refl;
      named = λ y. ap (λ (f : Facts). f.user) (blank-told y ∙ blank-now y);
      known = λ y off. blank-told y;
      rest = λ j x below off. record {
        chosen = told_in [] k;
        of = λ y. inl refl;
        value = first-values (suc j) x
            ∙ (sym (laws.blank x)
            ∙ (ap (λ (f : Facts). r.next f []) (sym (blank-now x))
            ∙ ap (λ (ys : List User). r.next (now_in [] k x) (inputs_of (told_in [] k) (value_in r.first [] k j) ys)) (sym
            (no-neighbours r.side x))));
      };
    };
  }

pub empty-law : (V : Type 0) → EmptyLaw V
empty-law V r top k laws kept = empty-on r laws top k kept

-- what a settle reads right after a begin
pub sum-same : (f g : User → ℕ) (us : List User) → ((y : User) → f y ≡ g y) → sum_over f us ≡ sum_over g us
sum-same f g [] same = refl
sum-same f g (u ∷ us) same = ap₂ (λ (m n : ℕ). m + n) (same u) (sum-same f g us same)

pub any-same : (p q : User → Bool) (us : List User) → ((y : User) → p y ≡ q y) → list_any p us ≡ list_any q us
any-same p q [] same = refl
any-same p q (u ∷ us) same = ap₂ (λ (a b : Bool). a || b) (same u) (any-same p q us same)

module _ {V : Type 0} (r : LayerRule V) (laws : IsLayerRule r) (top : ℕ) (was is : PartView) (ds : List DeltaLists) (us : List User)
    (before : KeptView V) (vs : List User) (after : KeptView V)
    (on : On r top was us before) (quiet : IsQuiet us before) (begun : IsBegun r ds us before vs after) where
  abbrev was-net : PullNet
  was-net = net_in r.side was us before

  abbrev is-net : PullNet
  is-net = net_in r.side is vs after

  abbrev kept-now : Keeping V
  kept-now = keeping r.first vs after

  shown-told : (told now : Facts) (m : Bool) (v w : V) → m ≡ false → shows r told now m v w ≡ not (r.alike told v now w)
  shown-told told now m v w e = ap (λ (b : Bool). shows r told now b v w) e ∙ here (r.alike told v now w)
    where
      here : (b : Bool) → not (b && true) ≡ not b
      here true = refl
      here false = refl

  changed : (j : ℕ) (y : User) → j ≤ top → changes r is-net kept-now j (layer_in r is-net j) y ≡ differs r was-net is-net j y
  changed j y le =
      shown-told (told_in vs after y) (now_in vs after y) after.mixed (value_in r.first vs after j y) (layer_in r is-net j y) begun.mixed
      ∙ ap₂ (λ (f : Facts) (v : V). not (r.alike f v (now_in vs after y) (layer_in r is-net j y))) (begun.told y) (begun.values j y
      ∙ quiet-law V r top was us before laws on quiet j y le)

  again : (j : ℕ) (x : User) → j ≤ top → is_due r is-net kept-now vs j (layer_in r is-net j) x ≡ is_again r ds was-net is-net vs j x
  again j x le =
      let positive : nat_lt 0 (j + 1) ≡ true = grind (arith, nat_tests) in
      ap₂ (λ (a b : Bool). a || b) (begun.active (j + 1) x ∙ ap (λ (b : Bool). b && is_started r ds (now_in us before) x) positive)
      (any-same _ _ vs (λ y. ap (λ (b : Bool). b && has_user (is-net.readers y) x) (changed j y le)))

  reads : (n : ℕ) → n ≤ top → settle_reads r is-net is kept-now vs n ≡ epoch_reads r ds was-net is-net is vs n
  reads n le =
      ap₂ (λ (a b : ℕ). a + b)
      (sum-same _ _ vs (λ y. ap (λ (b : Bool). if b then reads_on (opposite r.side) is y else 0)
      (ever-same _ _ n (λ j lt. changed j y (omega (arith, lt, le))))))
      (sum-same _ _ vs (λ x. ap (λ (b : Bool). if b then reads_on r.side is x else 0)
      (ever-same _ _ n (λ j lt. again j x (omega (arith, lt, le))))))

pub reads-law : (V : Type 0) → ReadsLaw V
reads-law V r top was is ds us before vs after laws on quiet begun = reads r laws top was is ds us before vs after on quiet begun top
    (omega arith)

pub layers-law : (V : Type 0) → LayersLaw V
layers-law V r ds was is v us zero =
    let told = sum-none (λ y. 0) us (λ y. refl) in
    omega (arith, told)
layers-law V r ds was is v us (suc n) =
    let old = layers-law V r ds was is v us n in
    let told = sum-ever (λ y j. differs r was is j y) (λ y. reads_on (opposite r.side) v y) n us in
    let again = sum-ever (λ x j. is_again r ds was is us j x) (λ x. reads_on r.side v x) n us in
    omega (arith, old, told, again)
