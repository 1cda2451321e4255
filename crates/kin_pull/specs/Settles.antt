-- What a settle computes again, and what it reads.
use Rattle.std.specs.Prelude.{◌≡◌, ◌<◌, ◌+◌, ◌&&◌, ◌||◌, ℕ, zero, suc, Bool, true, false, List, [], ◌∷◌, length, if◌then◌else◌}
use Rattle.std.specs.List.{list_any}
use Rattle.kin_ids.specs.declared.ids.User.{User}
use Rattle.kin_ids.specs.Users.{has_user}
use Rattle.kin_ids.specs.Parts.{PartView}
use Rattle.kin_rules.specs.declared.pull_rules.Side.{Side}
use Rattle.kin_rules.specs.Layers.{LayerRule, IsLayerRule}
use Rattle.kin_rules.specs.LayerTables.{halves_on}
use Rattle.kin_pull.specs.Keeping.{PullNet, Keeping, IsJoined, IsStanding, layer_in, next_of, shows}
use Rattle.kin_pull.specs.States.{opposite}

-- whether the change of layer j of a user from what is kept to these values shows to its readers
abbrev pub changes : {V : Type 0} → LayerRule V → PullNet → Keeping V → ℕ → (User → V) → User → Bool
changes r net e j values y = shows r (e.told y) (net.facts y) e.mixed (e.layers j y) (values y)

-- who is computed again at the layer above: who is active there, and who reads one of these users whose change shows
abbrev pub is_due : {V : Type 0} → LayerRule V → PullNet → Keeping V → List User → ℕ → (User → V) → User → Bool
is_due r net e us j values x = e.active (j + 1) x || list_any (λ y. changes r net e j values y && has_user (net.readers y) x) us

-- the values of the layer above: computed again of those who are due, and as kept of all others
pub record IsPassed {V : Type 0} (r : LayerRule V) (net : PullNet) (e : Keeping V) (us : List User) (j : ℕ) (values above : User
    → V) : Type 0 where
  pub computed : (x : User) → is_due r net e us j values x ≡ true → above x ≡ next_of r net values x
  pub kept : (x : User) → is_due r net e us j values x ≡ false → above x ≡ e.layers (suc j) x

-- from the rule's layer it leads to the rule's layer above
abbrev pub PassLaw : Type 0 → Type 0
PassLaw V = (r : LayerRule V) (net : PullNet) (top : ℕ) (e : Keeping V) (us : List User) (j : ℕ) (values above : User → V)
    → IsLayerRule r → IsJoined net
    → ((x y : User) → has_user (net.inputs x) y ≡ true → has_user us y ≡ true) → IsStanding r net top e → j < top
    → IsPassed r net e us j values above
    → ((x : User) → values x ≡ layer_in r net j x) → (x : User) → above x ≡ layer_in r net (suc j) x

abbrev pub sum_over : (User → ℕ) → List User → ℕ
sum_over f [] = 0
sum_over f (u ∷ us) = f u + sum_over f us

-- what is read where the edges on a side of a user are read
abbrev pub reads_on : Side → PartView → User → ℕ
reads_on s v u = 1 + length (halves_on s v u)

-- whether this holds of a number below n
abbrev pub ever : (ℕ → Bool) → ℕ → Bool
ever f zero = false
ever f (suc n) = ever f n || f n

-- What is read for the first n layers, from what is kept to the rule's layers: once the edges to the readers of each user whose change
-- shows in one of them, and once the edges to the inputs of each user who is computed again above one of them.
abbrev pub settle_reads : {V : Type 0} → LayerRule V → PullNet → PartView → Keeping V → List User → ℕ → ℕ
settle_reads r net v e us n =
    sum_over (λ y. if ever (λ j. changes r net e j (layer_in r net j) y) n then reads_on (opposite r.side) v y else 0) us
    + sum_over (λ x. if ever (λ j. is_due r net e us j (layer_in r net j) x) n then reads_on r.side v x else 0) us
