-- What layers over a view of a whole graph are.
use Rattle.std.proofs.Common.{◌≡◌, ◌<◌, ◌≤◌, ◌+◌, ◌∙◌, ◌||◌, ◌++◌, ℕ, zero, suc, Bool, true, false, List, [], ◌∷◌, Some, length, get_or, map, filter, cond, leb, arith, refl, sym, ap, subst}
use Rattle.std.specs.List.{slice_get, count_by}
use Rattle.std.proofs.lemmas.Bool.{or_left, or_right}
use Rattle.std.proofs.lemmas.Bool.Decides.{nat_tests}
use Rattle.std.proofs.lemmas.List.{length-map}
use Rattle.std.proofs.lemmas.List.Folds.{list_any-append}
use Rattle.std.proofs.lemmas.Option.{slice_get-get_or}
use Rattle.kin_ids.specs.declared.ids.User.{User}
use Rattle.kin_ids.specs.declared.ops.Half.{Half}
use Rattle.kin_ids.specs.Users.{same_user, has_user}
use Rattle.kin_ids.specs.Graph.{Graph, Edge, half_in, half_out, vertices}
use Rattle.kin_ids.specs.Parts.{PartView}
use Rattle.kin_ids.specs.Wholes.{IsViewOf}
use Rattle.kin_graph.specs.Views.{AreVertices}
use Rattle.kin_ids.proofs.Vertices.{has-distinct_onto}
use Rattle.kin_graph.proofs.Wholes.{whole-vertices}
use Rattle.kin_rules.specs.declared.pull_rules.Facts.{Facts}
use Rattle.kin_rules.specs.declared.pull_rules.Side.{Side}
use Rattle.kin_rules.specs.declared.pull_rules.Side.TheVariants as side
use Rattle.kin_rules.specs.Layers.{LayerRule, IsLayerRule, AreSameFacts, AreSameInputs, layer, layer_of, inputs_of, facts_of, neighbours, net_of}
use Rattle.kin_rules.specs.LayerTables.{IsTable, ArePlaces, AreRows, value_at, layer_value, present_ends, facts_seen, neighbours_seen, net_within}
use Rattle.kin_rules.specs.Places.{place}
use Rattle.kin_rules.specs.Edges.{places_of, rows_of}
use Rattle.kin_rules.proofs.Places.{place-lt, map-place}
use Rattle.kin_rules.proofs.LayerRows.{filter-whole, has-filter, places-of, rows-places}

pub map-same : {X Y : Type 0} (f h : X → Y) (xs : List X) → ((x : X) → f x ≡ h x) → map f xs ≡ map h xs
map-same f h [] same = refl
map-same {X} {Y} f h (x ∷ xs) same = ap (λ (y : Y). y ∷ map f xs) (same x) ∙ ap (λ (ys : List Y). h x ∷ ys) (map-same f h xs same)

-- who is among present ends of some edges is among the ends of all
ends-there : (half : Edge → Half) (p : Edge → Bool) (es : List Edge) (y : User) → has_user (present_ends (map half (filter p es))) y ≡ true → has_user (map (λ (e : Edge). (half e).other) es) y ≡ true
ends-there half p [] y h = absurd cc
ends-there half p (e ∷ es) y h = here (p e) h (ends-there half p es y)
  where
    all : List User
    all = map (λ (d : Edge). (half d).other) es

    kept : (b : Bool) → has_user (map (λ (q : Half). q.other) (cond b (half e ∷ filter (λ q. q.present) (map half (filter p es))) (filter (λ q. q.present) (map half (filter p es))))) y ≡ true
        → (has_user (present_ends (map half (filter p es))) y ≡ true → has_user all y ≡ true) → (same_user y (half e).other || has_user all y) ≡ true
    kept false h old = or_right (same_user y (half e).other) (has_user all y) (old h)
    kept true h old = this (same_user y (half e).other) h
      where
        this : (b : Bool) → (b || has_user (present_ends (map half (filter p es))) y) ≡ true → (b || has_user all y) ≡ true
        this true h = refl
        this false h = old h

    here : (b : Bool) → has_user (present_ends (map half (cond b (e ∷ filter p es) (filter p es)))) y ≡ true → (has_user (present_ends (map half (filter p es))) y ≡ true → has_user all y ≡ true) → (same_user y (half e).other || has_user all y) ≡ true
    here false h old = or_right (same_user y (half e).other) (has_user all y) (old h)
    here true h old = kept (half e).present h old

-- who stands in an edge, a mention or a use is a vertex, list by list
pub has-sources : (g : Graph) (x : User) → has_user (vertices g) x
    ≡ (((has_user (map (λ e. e.start) g.edges) x || has_user (map (λ e. e.end) g.edges) x)
    || (has_user (map (λ m. m.start) g.mentions) x || has_user (map (λ m. m.end) g.mentions) x)) || has_user (map (λ t. t.user) g.uses) x)
has-sources g x = has-distinct_onto [] (((map (λ e. e.start) g.edges ++ map (λ e. e.end) g.edges) ++ (map (λ m. m.start) g.mentions ++ map (λ m. m.end) g.mentions)) ++ map (λ t. t.user) g.uses) x ∙ simp list_any-append

module _ (g : Graph) where
  -- neighbours are vertices
  pub neighbour-vertex : (s : Side) (x y : User) → has_user (neighbours s g x) y ≡ true → has_user (vertices g) y ≡ true
  neighbour-vertex side.In x y h = has-sources g y ∙ or_left _ _ (or_left _ _ (or_left _ _ (ends-there half_in (λ e. same_user x e.end) g.edges y h)))
  neighbour-vertex side.Out x y h = has-sources g y ∙ or_left _ _ (or_left _ _ (or_right _ _ (ends-there half_out (λ e. same_user x e.start) g.edges y h)))

  module _ (v : PartView) (whole : IsViewOf g v) (us : List User) (are : AreVertices v us) where
    pub neighbours-whole : (s : Side) (x : User) → neighbours_seen s v x ≡ neighbours s g x
    neighbours-whole side.In x = ap (λ (hs : List Half). present_ends hs) (whole.inn x)
    neighbours-whole side.Out x = ap (λ (hs : List Half). present_ends hs) (whole.out x)

    pub inputs-whole : (s : Side) (x : User) → filter (has_user us) (neighbours_seen s v x) ≡ neighbours s g x
    inputs-whole s x =
        ap (λ (ys : List User). filter (has_user us) ys) (neighbours-whole s x)
        ∙ filter-whole us (neighbours s g x) (λ y h. whole-vertices g v whole us are y ∙ neighbour-vertex s x y h)

    pub facts-whole : (x : User) → AreSameFacts (facts_seen v x) (facts_of g x)
    facts-whole x = record { user = refl; following = ap (λ (hs : List Half). count_by (λ h. h.present) hs) (whole.out x); uses = whole.uses x }

    same-inputs : {V : Type 0} (f h : User → V) (ys : List User) → ((y : User) → f y ≡ h y) → AreSameInputs (inputs_of (facts_seen v) f ys) (inputs_of (facts_of g) h ys)
    same-inputs f h [] same = tt
    same-inputs f h (y ∷ ys) same = (facts-whole y, same y, same-inputs f h ys same)

    -- the layers over the view are those of the graph
    pub layer-whole : {V : Type 0} (r : LayerRule V) → IsLayerRule r → (s : Side) (j : ℕ) (x : User) → layer r (net_within us s v) j x ≡ layer r (net_of s g) j x
    layer-whole r law s zero x = refl
    layer-whole {V} r law s (suc j) x =
        ap (λ (ys : List User). r.next (facts_seen v x) (inputs_of (facts_seen v) (layer r (net_within us s v) j) ys)) (inputs-whole s x)
        ∙ law.use_order (facts_seen v x) (facts_of g x) (inputs_of (facts_seen v) (layer r (net_within us s v) j) (neighbours s g x)) (inputs_of (facts_of g) (layer r (net_of s g) j) (neighbours s g x)) (facts-whole x)
        (same-inputs (layer r (net_within us s v) j) (layer r (net_of s g) j) (neighbours s g x) (layer-whole r law s j))

    -- what is read of rows over the view
    pub rows-read : {V : Type 0} (r : LayerRule V) → IsLayerRule r → (top : ℕ) (rows : List (List V)) → AreRows r (net_within us r.side v) us (top + 1) rows → (u : User) (j : ℕ)
        → value_at (record { users = us; rows = rows }) u j ≡ layer_value r top g u j
    rows-read {V} r law top rows all u j = here (has_user us u) refl (leb j top) refl
      where
        past : (rs : List (List V)) (i : ℕ) → length rs ≤ i → get_or rs i [] ≡ []
        past [] i le = refl
        past (q ∷ rs) zero le = absurd (omega (arith, le))
        past (q ∷ rs) (suc i) le = past rs i (omega (arith, le))

        here : (b : Bool) → has_user us u ≡ b → (c : Bool) → leb j top ≡ c → value_at (record { users = us; rows = rows }) u j ≡ layer_value r top g u j
        here false e c le = rw (sym (whole-vertices g v whole us are u), e) refl
        here true e true le =
            let f : User → V = layer r (net_within us r.side v) j in
            let row : get_or rows j [] ≡ map f us = all.each j (grind (arith, nat_tests, le)) in
            let at : place us u < length (map f us) = subst (λ (n : ℕ). place us u < n) (sym (length-map us f)) (place-lt us u e) in
            let read : slice_get (get_or rows j []) (place us u) ≡ Some (layer_of r g j u)
            = ap (λ (vs : List V). slice_get vs (place us u)) row ∙ slice_get-get_or (map f us) (place us u) (f u) at ∙ ap Some (map-place f us u (f u) e ∙ layer-whole r law r.side j u) in
            rw (sym (whole-vertices g v whole us are u), e, le) read
        here true e false le =
            let none : get_or rows j [] ≡ [] = past rows j (let long = all.long in grind (arith, nat_tests, le, long)) in
            rw (sym (whole-vertices g v whole us are u), e, le) (ap (λ (vs : List V). slice_get vs (place us u)) none)

-- the facts and places of a view are a table of its net
pub table-within : (v : PartView) (s : Side) (us : List User) (facts : List Facts) (rows : List (List ℕ)) → facts ≡ map (facts_seen v) us → rows ≡ rows_of us (neighbours_seen s v) → IsTable (net_within us s v) us facts rows
table-within v s us facts rows f e = record {
  facts_are = f;
  rows_are = e ∙ map-same (λ u. places_of us (neighbours_seen s v u)) (λ u. map (place us) (filter (has_user us) (neighbours_seen s v u))) us (λ u. places-of us (neighbours_seen s v u));
  closed = λ x y there h. has-filter us (neighbours_seen s v x) y h;
}

pub places-within : (us : List User) (ends : User → List User) (facts : List Facts) (f : User → Facts) (rows : List (List ℕ)) → facts ≡ map f us → rows ≡ rows_of us ends → ArePlaces (length facts) rows
places-within us ends facts f rows are e =
    let long : length us ≡ length facts = sym (ap (λ (fs : List Facts). length fs) are ∙ length-map us f) in
    subst (λ (n : ℕ). ArePlaces n rows) long (subst (λ (rs : List (List ℕ)). ArePlaces (length us) rs) (sym e) (rows-places us ends))
