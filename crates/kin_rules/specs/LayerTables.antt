-- Layers over users that are numbered densely.
use Rattle.std.specs.Prelude.{◌≡◌, ◌<◌, ◌+◌, ◌&&◌, ℕ, nat_le, true, List, [], map, filter, get_or, length, count_by, Option, Some, None, All, slice_get, if◌then◌else◌}
use Rattle.kin_ids.specs.declared.ids.User.{User}
use Rattle.kin_ids.specs.declared.ops.Half.{Half}
use Rattle.kin_ids.specs.Users.{has_user}
use Rattle.kin_ids.specs.Graph.{Graph, vertices}
use Rattle.kin_ids.specs.Parts.{PartView}
use Rattle.kin_rules.specs.declared.pull_rules.Side.{Side}
use Rattle.kin_rules.specs.declared.pull_rules.Side.TheVariants as side
use Rattle.kin_rules.specs.declared.pull_rules.Facts.{Facts}
use Rattle.kin_rules.specs.declared.pull_rules.Input.{Input}
use Rattle.kin_rules.specs.Layers.{LayerRule, LayerNet, layer, layer_of}
use Rattle.kin_rules.specs.Places.{place}

-- Layers by user: the users, ascending, and for each layer one value a user.
pub record LayersOf (V : Type 0) : Type 0 where
  pub users : List User
  pub rows : List (List V)

-- the value of a user in a layer, where the user and the layer are there
abbrev pub value_at : {V : Type 0} → LayersOf V → User → ℕ → Option V
value_at ls u j = if has_user ls.users u then slice_get (get_or ls.rows j []) (place ls.users u) else None

-- the value of a vertex in a layer of a rule that has so many above layer 0
abbrev pub layer_value : {V : Type 0} → LayerRule V → ℕ → Graph → User → ℕ → Option V
layer_value r top g u j = if has_user (vertices g) u && nat_le j top then Some (layer_of r g j u) else None

-- the other ends of those halves that are present
abbrev pub present_ends : List Half → List User
present_ends hs = map (λ h. h.other) (filter (λ h. h.present) hs)

-- what a view hands out: the halves on a side, whose ends are neighbours, and what is known of a user beside its edges
abbrev pub halves_on : Side → PartView → User → List Half
halves_on side.In v u = v.inn u
halves_on side.Out v u = v.out u

abbrev pub neighbours_seen : Side → PartView → User → List User
neighbours_seen s v u = present_ends (halves_on s v u)

abbrev pub facts_seen : PartView → User → Facts
facts_seen v u = record { user = u; following = count_by (λ h. h.present) (v.out u); uses = v.uses u }

-- the net of a view among some users
abbrev pub net_within : List User → Side → PartView → LayerNet
net_within us s v = record { inputs = λ u. filter (has_user us) (neighbours_seen s v u); facts = facts_seen v }

-- the input at a place
abbrev pub input_at : {V : Type 0} → Facts → V → List Facts → List V → ℕ → Input V
input_at df d facts row i = record { facts = get_or facts i df; value = get_or row i d }

-- what the rule makes of own facts and of the inputs at these places
abbrev pub IsNextAt : {V : Type 0} → LayerRule V → List Facts → List V → Facts → List ℕ → V → Type 0
IsNextAt {V} r facts row own ends v = (df : Facts) (d : V) → v ≡ r.next own (map (input_at df d facts row) ends)

-- the inputs of each of these users are among them
abbrev pub IsClosed : List User → (User → List User) → Type 0
IsClosed us inputs = (x y : User) → has_user us x ≡ true → has_user (inputs x) y ≡ true → has_user us y ≡ true

-- the facts of each user, and the places of its inputs
pub record IsTable (net : LayerNet) (users : List User) (facts : List Facts) (rows : List (List ℕ)) : Type 0 where
  pub facts_are : facts ≡ map net.facts users
  pub rows_are : rows ≡ map (λ x. map (place users) (net.inputs x)) users
  pub closed : IsClosed users net.inputs

-- a row of a layer, and the one above it
abbrev pub IsRowAbove : {V : Type 0} → LayerRule V → List Facts → List (List ℕ) → List V → List V → Type 0
IsRowAbove r facts ends row above = (net : LayerNet) (users : List User) (j : ℕ) → IsTable net users facts ends
    → row ≡ map (layer r net j) users → above ≡ map (layer r net (j + 1)) users

-- places below n
abbrev pub ArePlaces : ℕ → List (List ℕ) → Type 0
ArePlaces n rows = All (λ row. All (λ i. i < n) row) rows

-- everybody's shares
pub record AreAllShares {V : Type 0} (share : Facts → V → ℕ) (facts : List Facts) (row : List V) (shares : List ℕ) : Type 0 where
  pub long : length shares ≡ length facts
  pub each : (k : ℕ) (df : Facts) (d : V) → k < length facts → get_or shares k 0 ≡ share (get_or facts k df) (get_or row k d)

-- all rows up to layer n
pub record AreRows {V : Type 0} (r : LayerRule V) (net : LayerNet) (users : List User) (n : ℕ) (rows : List (List V)) : Type 0 where
  pub long : length rows ≡ n
  pub each : (j : ℕ) → j < n → get_or rows j [] ≡ map (layer r net j) users
