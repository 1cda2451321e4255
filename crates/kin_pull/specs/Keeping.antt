-- What an engine of a rule of layers keeps, as functions of all users, and the facts that it keeps.
use Rattle.std.specs.Prelude.{◌≡◌, ◌<◌, ◌≤◌, ◌⊎◌, ◌&&◌, ◌||◌, not, ℕ, suc, Bool, true, false, List}
use Rattle.kin_ids.specs.declared.ids.User.{User}
use Rattle.kin_ids.specs.Users.{has_user}
use Rattle.kin_rules.specs.declared.pull_rules.Facts.{Facts}
use Rattle.kin_rules.specs.Layers.{LayerRule, IsLayerRule, layer, inputs_of}

-- What a rule of layers sees: whose layers go into a user's, into whose layers a user's go, and what is known of each user beside its
-- edges.
pub record PullNet : Type 0 where
  pub inputs : User → List User
  pub readers : User → List User
  pub facts : User → Facts

-- a layer of a user
abbrev pub layer_in : {V : Type 0} → LayerRule V → PullNet → ℕ → User → V
layer_in r net j x = layer r (record { inputs = net.inputs; facts = net.facts }) j x

-- edges are seen alike from both ends, and facts bear the name of their user
pub record IsJoined (net : PullNet) : Type 0 where
  pub both : (x y : User) → has_user (net.inputs x) y ≡ has_user (net.readers y) x
  pub named : (y : User) → (net.facts y).user ≡ y

-- What is kept of all users: their layers, the facts that each told its readers last, who has yet to tell its facts of now, who is active
-- at
-- a layer, and whether turns were made since the epoch began.
pub record Keeping (V : Type 0) : Type 0 where
  pub layers : ℕ → User → V
  pub told : User → Facts
  pub fresh : User → Bool
  pub active : ℕ → User → Bool
  pub mixed : Bool

-- what the rule makes of the facts of now of a user and of its inputs, where these are the values of the layer below
abbrev pub next_of : {V : Type 0} → LayerRule V → PullNet → (User → V) → User → V
next_of r net values x = r.next (net.facts x) (inputs_of net.facts values (net.inputs x))

-- the layer above j of a user is that of its inputs, with the facts of now
abbrev pub IsAtRest : {V : Type 0} → LayerRule V → PullNet → (ℕ → User → V) → ℕ → User → Type 0
IsAtRest r net f j x = f (suc j) x ≡ next_of r net (f j) x

-- The layer above j of a user is what the rule makes of its inputs, each with the facts that it told last, or where turns were made perhaps
-- with its facts of now.
pub record IsCounted {V : Type 0} (r : LayerRule V) (net : PullNet) (e : Keeping V) (j : ℕ) (x : User) : Type 0 where
  pub chosen : User → Facts
  pub of : (y : User) → (chosen y ≡ e.told y) ⊎ ((e.mixed ≡ true) × (chosen y ≡ net.facts y))
  pub value : e.layers (suc j) x ≡ r.next (net.facts x) (inputs_of chosen (e.layers j) (net.inputs x))

-- The facts: layer 0 is the first value, who isn't fresh has told its facts of now, and who isn't active at a layer is counted there.
pub record IsStanding {V : Type 0} (r : LayerRule V) (net : PullNet) (top : ℕ) (e : Keeping V) : Type 0 where
  pub first : (x : User) → e.layers 0 x ≡ r.first
  pub named : (y : User) → (e.told y).user ≡ y
  pub known : (y : User) → e.fresh y ≡ false → e.told y ≡ net.facts y
  pub rest : (j : ℕ) (x : User) → j < top → e.active (suc j) x ≡ false → IsCounted r net e j x

-- Whether a change of an input from one value to another shows: to those whom it told its facts, and where turns were made also to those
-- who
-- know its facts of now.
abbrev pub shows : {V : Type 0} → LayerRule V → Facts → Facts → Bool → V → V → Bool
shows r told now mixed v w = not (r.alike told v now w && (not mixed || r.alike now v now w))

-- where nobody is active and nobody is fresh every layer is that of the rule
abbrev pub IdleLaw : Type 0 → Type 0
IdleLaw V = (r : LayerRule V) (net : PullNet) (top : ℕ) (e : Keeping V) → IsLayerRule r → IsJoined net → IsStanding r net top e
    → ((y : User) → e.fresh y ≡ false) → ((j : ℕ) (x : User) → j < top → e.active (suc j) x ≡ false) → (j : ℕ) (x : User) → j ≤ top
    → e.layers j x ≡ layer_in r net j x

-- a layer of a user differs from that of its inputs only where it is active there, or one of its inputs is fresh
abbrev pub RestLaw : Type 0 → Type 0
RestLaw V = (r : LayerRule V) (net : PullNet) (top : ℕ) (e : Keeping V) → IsLayerRule r → IsJoined net → IsStanding r net top e
    → (j : ℕ) (x : User) → j < top → e.active (suc j) x ≡ false → ((y : User) → has_user (net.inputs x) y ≡ true → e.fresh y ≡ false)
    → IsAtRest r net e.layers j x
