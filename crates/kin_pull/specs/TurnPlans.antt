-- Turns that are planned, and then entered.
use Rattle.std.specs.Prelude.{◌≡◌, ◌<◌, ◌+◌, ℕ, zero, suc, true, false, List, [], Option, None, IfSome, is_some, length, slice_get}
use Rattle.std.specs.Prelude.{if◌then◌else◌}
use Rattle.kin_ids.specs.declared.ids.User.{User}
use Rattle.kin_ids.specs.Parts.{PartView}
use Rattle.kin_rules.specs.Edges.{places_of}
use Rattle.kin_rules.specs.Layers.{LayerRule}
use Rattle.kin_rules.specs.LayerTables.{neighbours_seen}
use Rattle.kin_rules.specs.Places.{place}
use Rattle.kin_pull.specs.States.{KeptView, is_active, is_from, opposite}
use Rattle.kin_pull.specs.TurnSteps.{IsColumn, shows_turned}

-- The place of a user, its new values from layer 1 on, the layer from which on its readers become active, and the places of those readers.
pub record TurnPlanView (V : Type 0) : Type 0 where
  pub place : ℕ
  pub column : List V
  pub from : Option ℕ
  pub readers : List ℕ

-- the planned value of a layer: none of layer 0, and none where there is no such layer
abbrev pub planned_value : {V : Type 0} → TurnPlanView V → ℕ → Option V
planned_value plan zero = None
planned_value plan (suc j) = slice_get plan.column j

-- It is the turn of u, who is active: each layer of u is what the rule makes of the layer below, and its readers become active from right
-- above the first layer whose change shows.
pub record IsTurnPlan {V : Type 0} (r : LayerRule V) (top : ℕ) (v : PartView) (us : List User) (k : KeptView V) (u : User)
    (plan : TurnPlanView V) : Type 0 where
  pub active : is_active us k u ≡ true
  pub at : plan.place ≡ place us u
  pub within : plan.place < length us
  pub column : IsColumn r v us k u top plan.column
  pub hidden : (j : ℕ) → j < top → is_from plan.from (j + 1) ≡ false → shows_turned r us k plan.column u j ≡ false
  pub shown : IfSome plan.from (λ l. (j : ℕ) × (l ≡ j + 1) × (j < top) × (shows_turned r us k plan.column u j ≡ true))
  pub readers : plan.readers ≡ (if is_some plan.from then places_of us (neighbours_seen (opposite r.side) v u) else [])
