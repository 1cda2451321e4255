-- What a step of a pass tells and computes.
use Rattle.std.proofs.Common.{◌≡◌, ◌<◌, ◌≤◌, ◌+◌, ◌∙◌, ◌||◌, ◌&&◌, ℕ, Bool, true, false, All, filter, List, [], ◌∷◌, ◌++◌, map, length}
use Rattle.std.proofs.Common.{get_or, take, Option, None, unwrap_or, refl, sym, ap, ap₂, subst}
use Rattle.kin_ids.specs.declared.ids.User.{User}
use Rattle.kin_ids.specs.Users.{has_user}
use Rattle.kin_ids.specs.Parts.{PartView}
use Rattle.kin_rules.specs.declared.pull_rules.Facts.{Facts}
use Rattle.kin_rules.specs.declared.pull_rules.Input.{Input}
use Rattle.kin_rules.specs.Edges.{places_of}
use Rattle.kin_rules.specs.Going.{has_place}
use Rattle.std.proofs.lemmas.List.{map_push, map_more, take_all}
use Rattle.kin_rules.specs.declared.pull_rules.Lent.{Lent}
use Rattle.kin_rules.specs.Layers.{LayerRule, IsLayerRule, blank, inputs_of, lent}
use Rattle.kin_rules.specs.LayerTables.{neighbours_seen}
use Rattle.kin_rules.specs.Places.{place}
use Rattle.kin_rules.proofs.LayerRows.{places-of, places-below, has-filter}
use Rattle.kin_pull.specs.Keeping.{shows}
use Rattle.kin_pull.specs.Passes.{lent_at, drawn_in, changes_in, marked, above_in}
use Rattle.kin_pull.specs.States.{KeptView, On, value_in, now_in, told_in, row_in, opposite}
use Rattle.kin_pull.proofs.Marks.{marked-more, lent-inputs, places-there}
use Rattle.kin_pull.proofs.Standing.{shows-none}

-- neighbours on both sides are among the users
pub inputs-there : {V : Type 0} (r : LayerRule V) (top : ℕ) (v : PartView) (us : List User) (k : KeptView V) → On r top v us k
    → (u y : User) → has_user (neighbours_seen r.side v u) y ≡ true → has_user us y ≡ true
inputs-there r top v us k on u y h = (on.within u y h).1

pub readers-there : {V : Type 0} (r : LayerRule V) (top : ℕ) (v : PartView) (us : List User) (k : KeptView V) → On r top v us k
    → (u y : User) → has_user (neighbours_seen (opposite r.side) v u) y ≡ true → has_user us y ≡ true
readers-there r top v us k on u y h = (on.within y u (on.joined.both y u ∙ h)).0

-- places of ends are below the length
pub ends-below : (us ys : List User) (row : List ℕ) → row ≡ places_of us ys → (n : ℕ) → n ≡ length us → All (λ i. i < n) row
ends-below us ys row e n long =
    subst (λ (m : ℕ). All (λ i. i < m) row) (sym long) (subst (λ (is : List ℕ). All (λ i. i < length us) is) (sym (e
    ∙ places-of us ys)) (places-below us (filter (has_user us) ys) (λ y h. has-filter us ys y h)))

module _ {V : Type 0} (r : LayerRule V) (us : List User) (k : KeptView V) (j : ℕ) (drawn : List (Option V)) (user : User) (i : ℕ)
    (at : place us user ≡ i) where
  -- nothing shows where nothing was computed again and the facts were told
  pub still-hides : IsLayerRule r → (get_or drawn i None ≡ None) × (get_or k.told i None ≡ None) → changes_in r us k j drawn user ≡ false
  still-hides laws none =
      let told : told_in us k user ≡ now_in us k user = ap (λ (n : ℕ). unwrap_or (get_or k.told n None) (now_in us k user)) at
      ∙ ap (λ (o : Option Facts). unwrap_or o (now_in us k user)) none.1 in
      let same : drawn_in r.first us k j drawn user ≡ value_in r.first us k j user
      = ap (λ (n : ℕ). unwrap_or (get_or drawn n None) (value_in r.first us k j user)) at
      ∙ ap (λ (o : Option V). unwrap_or o (value_in r.first us k j user)) none.0 in
      shows-none r laws (told_in us k user) (now_in us k user) k.mixed (value_in r.first us k j user)
      (drawn_in r.first us k j drawn user) told (sym same)

  pub changes-is : (first : V) → first ≡ r.first → (told now : Facts) (mixed : Bool) (was is : V)
      → told ≡ unwrap_or (get_or k.told i None) (get_or k.facts i (blank user)) → now ≡ get_or k.facts i (blank user) → mixed ≡ k.mixed
      → was ≡ get_or (row_in k j) i first → is ≡ unwrap_or (get_or drawn i None) (get_or (row_in k j) i first)
      → shows r told now mixed was is ≡ changes_in r us k j drawn user
  changes-is first the told now mixed was is a b m c d =
      let told-is : told ≡ told_in us k user = a ∙ ap (λ (n : ℕ). unwrap_or (get_or k.told n None) (get_or k.facts n (blank user)))
      (sym at) in
      let now-is : now ≡ now_in us k user = b ∙ ap (λ (n : ℕ). get_or k.facts n (blank user)) (sym at) in
      let was-is : was ≡ value_in r.first us k j user = c ∙ ap₂ (λ (n : ℕ) (f : V). get_or (row_in k j) n f) (sym at) the in
      let is-is : is ≡ drawn_in r.first us k j drawn user = d ∙ ap₂ (λ (n : ℕ) (f : V). unwrap_or (get_or drawn n None) (get_or
      (row_in k j) n f)) (sym at) the in
      λ t. shows r (told-is t) (now-is t) (m t) (was-is t) (is-is t)

-- telling
pub or-same : (m b c : Bool) → b ≡ false → m ≡ (m || (b && c))
or-same true b c e = refl
or-same false b c e = sym (ap (λ (a : Bool). a && c) e)

pub told-none : (us : List User) (marks : List Bool) (x : User) (shown : Bool) (ys : List User) (result : Bool) → result ≡ shown
    → result ≡ false → marked us marks x ≡ (marked us marks x || (shown && has_user ys x))
told-none us marks x shown ys result is off = or-same (marked us marks x) shown (has_user ys x) (sym is ∙ off)

pub told-some : (us ys : List User) (row : List ℕ) (was is : List Bool) (shown result : Bool) → result ≡ shown → result ≡ true
    → row ≡ places_of us ys → ((y : User) → has_user ys y ≡ true → has_user us y ≡ true)
    → ((n : ℕ) → get_or is n false ≡ (get_or was n false || has_place row n)) → (x : User)
    → marked us is x ≡ (marked us was x || (shown && has_user ys x))
told-some us ys row was is shown result same on e there more x =
    marked-more us ys row was is e there more x ∙ ap (λ (b : Bool). marked us was x || (b && has_user ys x)) (sym on ∙ same)

-- the value above
pub above-is : {V : Type 0} (r : LayerRule V) (top : ℕ) (v : PartView) (us : List User) (k : KeptView V) (j : ℕ) (drawn : List
    (Option V)) (user : User) (i : ℕ) → place us user ≡ i → On r top v us k → length k.facts ≡ length us
    → (first : V) → first ≡ r.first → (own : Facts) → own ≡ get_or k.facts i (blank user) → (row : List ℕ)
    → row ≡ places_of us (neighbours_seen r.side v user)
    → (inputs : List (Input V)) → inputs ≡ map (lent_at (blank user) first k j drawn) row
    → (value : V) → value ≡ r.next own inputs → value ≡ above_in r v us k j drawn user
above-is {V} r top v us k j drawn user i at on long first the own own-is row row-is inputs inputs-are value is =
    let there : (y : User) → has_user (neighbours_seen r.side v user) y ≡ true → has_user us y ≡ true = inputs-there r top v us k on user in
    let facts : own ≡ now_in us k user = own-is ∙ ap (λ (n : ℕ). get_or k.facts n (blank user)) (sym at) in
    let all : inputs ≡ inputs_of (now_in us k) (drawn_in r.first us k j drawn) (neighbours_seen r.side v user)
    = inputs-are
    ∙ (ap₂ (λ (f : V) (ns : List ℕ). map (lent_at (blank user) f k j drawn) ns) the (row-is
    ∙ places-there us (neighbours_seen r.side v user) there)
    ∙ lent-inputs r.first us k j drawn (blank user) (neighbours_seen r.side v user) long there) in
    is ∙ ap₂ (λ (f : Facts) (is : List (Input V)). r.next f is) facts all

-- one input more is lent
pub lend-step : {V : Type 0} (f : ℕ → Input V) (ends : List ℕ) (i e : ℕ) (was is : List (Lent V)) (new : Lent V) → i < length ends
    → e ≡ get_or ends i e → lent (new ∷ []) ≡ f e ∷ [] → is ≡ was ++ new ∷ [] → lent was ≡ map f (take i ends)
    → lent is ≡ map f (take (i + 1) ends)
lend-step {V} f ends i e was is new lt at same push old =
    ap (λ (ls : List (Lent V)). lent ls) push
    ∙ (map_push (λ (l : Lent V). let input : Input V = record { facts = l.facts.now; value = l.value.now } in input) was new
    ∙ (ap₂ (λ (a b : List (Input V)). a ++ b) old same
    ∙ (ap (λ (n : ℕ). map f (take i ends) ++ f n ∷ []) at ∙ sym (map_more f ends i e lt))))

pub lend-all : {V : Type 0} (f : ℕ → Input V) (ends : List ℕ) (i : ℕ) (is : List (Lent V)) → length ends ≤ i
    → lent is ≡ map f (take i ends) → lent is ≡ map f ends
lend-all f ends i is le old = old ∙ ap (map f) (take_all i ends le)
