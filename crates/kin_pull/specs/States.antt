-- What an engine keeps of users at their places, and the facts over a view.
use Rattle.std.specs.Prelude.{◌≡◌, ◌<◌, ◌≤◌, ◌||◌, not, nat_lt, ℕ, zero, suc, Bool, true, false, List, [], Option, Some, None, is_some}
use Rattle.std.specs.Prelude.{unwrap_or, length, slice_index_or}
use Rattle.std.specs.List.Sorted.{IsStrictlySortedBy}
use Rattle.kin_ids.specs.declared.ids.User.{User}
use Rattle.kin_ids.specs.Graph.{Graph}
use Rattle.kin_ids.specs.Users.{has_user, user_cmp}
use Rattle.kin_ids.specs.Parts.{PartView}
use Rattle.kin_ids.specs.Wholes.{IsViewOf}
use Rattle.kin_rules.specs.declared.pull_rules.Side.{Side}
use Rattle.kin_rules.specs.declared.pull_rules.Side.TheVariants as side
use Rattle.kin_rules.specs.declared.pull_rules.Facts.{Facts}
use Rattle.kin_rules.specs.Layers.{LayerRule, IsLayerRule, AreSameFacts, blank, layer_of}
use Rattle.kin_rules.specs.LayerTables.{facts_seen, neighbours_seen}
use Rattle.kin_rules.specs.Places.{place}
use Rattle.kin_pull.specs.Keeping.{PullNet, Keeping, IsJoined, IsStanding, layer_in}

-- Of each user at its place: its value in each layer above layer 0, its facts of now, the facts that it told last where it has yet to tell
-- those
-- of now, and the least layer at which it is active. And whether turns were made since the epoch began.
pub record KeptView (V : Type 0) : Type 0 where
  pub rows : List (List V)
  pub facts : List Facts
  pub told : List (Option Facts)
  pub low : List (Option ℕ)
  pub mixed : Bool

-- users that ascend, a row for each layer, and in each list one item for each user
pub record IsKept {V : Type 0} (top : ℕ) (us : List User) (k : KeptView V) : Type 0 where
  pub ascend : IsStrictlySortedBy user_cmp us
  pub layers : length k.rows ≡ top
  pub rows : (j : ℕ) → j < top → length (slice_index_or k.rows j []) ≡ length us
  pub facts : length k.facts ≡ length us
  pub told : length k.told ≡ length us
  pub low : length k.low ≡ length us

-- the row of a layer: none of layer 0
abbrev pub row_of : {X : Type 0} → List (List X) → ℕ → List X
row_of rows zero = []
row_of rows (suc j) = slice_index_or rows j []

abbrev pub row_in : {V : Type 0} → KeptView V → ℕ → List V
row_in k j = row_of k.rows j

-- a layer of a user: the first value at layer 0, and where it is none of these users
abbrev pub value_in : {V : Type 0} → V → List User → KeptView V → ℕ → User → V
value_in first us k j x = slice_index_or (row_in k j) (place us x) first

-- the facts of now, and those that were told last
abbrev pub now_in : {V : Type 0} → List User → KeptView V → User → Facts
now_in us k x = slice_index_or k.facts (place us x) (blank x)

abbrev pub told_in : {V : Type 0} → List User → KeptView V → User → Facts
told_in us k x = unwrap_or (slice_index_or k.told (place us x) None) (now_in us k x)

-- whether a user has yet to tell its facts of now
abbrev pub is_fresh : {V : Type 0} → List User → KeptView V → User → Bool
is_fresh us k x = is_some (slice_index_or k.told (place us x) None)

-- the least layer at which a user is active, and whether it is at a layer
abbrev pub low_in : {V : Type 0} → List User → KeptView V → User → Option ℕ
low_in us k x = slice_index_or k.low (place us x) None

abbrev pub is_from : Option ℕ → ℕ → Bool
is_from None j = false
is_from (Some l) j = not (nat_lt j l)

abbrev pub active_at : {V : Type 0} → List User → KeptView V → ℕ → User → Bool
active_at us k j x = is_from (low_in us k x) j

-- whether a user is active at some layer, or has yet to tell its facts
abbrev pub is_active : {V : Type 0} → List User → KeptView V → User → Bool
is_active us k x = is_some (low_in us k x) || is_fresh us k x

-- whether somebody at a place is active
abbrev pub busy_at : {V : Type 0} → KeptView V → ℕ → Bool
busy_at k i = is_some (slice_index_or k.low i None) || is_some (slice_index_or k.told i None)

abbrev pub IsQuiet : {V : Type 0} → List User → KeptView V → Type 0
IsQuiet us k = (x : User) → is_active us k x ≡ false

-- all of this as functions
abbrev pub keeping : {V : Type 0} → V → List User → KeptView V → Keeping V
keeping first us k = record {
  layers = value_in first us k;
  told = told_in us k;
  fresh = is_fresh us k;
  active = active_at us k;
  mixed =
      k.mixed;
}

abbrev pub opposite : Side → Side
opposite side.In = side.Out
opposite side.Out = side.In

-- what a rule sees of a view, with the facts that are kept
abbrev pub net_in : {V : Type 0} → Side → PartView → List User → KeptView V → PullNet
net_in s v us k = record { inputs = neighbours_seen s v; readers = neighbours_seen (opposite s) v; facts = now_in us k }

-- The facts over a view: neighbours are among the users, and the facts of now are those of the view, with the uses in any order.
pub record On {V : Type 0} (r : LayerRule V) (top : ℕ) (v : PartView) (us : List User) (k : KeptView V) : Type 0 where
  pub joined : IsJoined (net_in r.side v us k)
  pub within : (x y : User) → has_user (neighbours_seen r.side v x) y ≡ true → (has_user us x ≡ true) × (has_user us y ≡ true)
  pub facts : (y : User) → AreSameFacts (now_in us k y) (facts_seen v y)
  pub stands : IsStanding r (net_in r.side v us k) top (keeping r.first us k)

-- where nobody is active every layer is that of the rule
abbrev pub QuietLaw : Type 0 → Type 0
QuietLaw V = (r : LayerRule V) (top : ℕ) (v : PartView) (us : List User) (k : KeptView V) → IsLayerRule r → On r top v us k → IsQuiet us k
    → (j : ℕ) (x : User) → j ≤ top → value_in r.first us k j x ≡ layer_in r (net_in r.side v us k) j x

-- the layers over a view of a graph are the graph's
abbrev pub ViewLaw : Type 0 → Type 0
ViewLaw V = (r : LayerRule V) (top : ℕ) (g : Graph) (v : PartView) (us : List User) (k : KeptView V) → IsLayerRule r → IsViewOf g v
    → On r top v us k
    → (j : ℕ) (x : User) → layer_in r (net_in r.side v us k) j x ≡ layer_of r g j x
