-- An engine of a push rule, and what it begins its next epoch with.
use Rattle.std.specs.Prelude.{◌≡◌, ◌≤◌, ◌<◌, ◌+◌, ◌||◌, ℕ, true, List, Option, Some, None}
use Rattle.kin_ids.specs.declared.ids.User.{User}
use Rattle.kin_ids.specs.Parts.{PartView}
use Rattle.kin_ids.specs.Users.{has_user}
use Rattle.kin_graph.specs.Deltas.{DeltaLists}
use Rattle.kin_changes.specs.Told.{are_told}
use Rattle.kin_rules.specs.Costs.{least_cost}
use Rattle.kin_rules.specs.Walks.{Rule}
use Rattle.kin_push.specs.declared.engines.Columns.{Columns}
use Rattle.kin_push.specs.Begins.{is_started}
use Rattle.kin_push.specs.Facts.{On, to_read, to_turn}
use Rattle.kin_push.specs.States.{PushState, IsPushState, IsQuiet, is_active, net_in, state, value_in}
use Rattle.kin_push.specs.Turns.{IsRun, Moved, Rested}

-- the rule and the state
pub record Engine (R : Type 0) : Type 0 where
  pub rule : R
  pub state : PushState

-- the state that columns are
abbrev pub columns_of : Columns → PushState
columns_of c = state c.users.items c.values.items c.active

-- a wider state, where somebody is new, and who starts
pub record Planned : Type 0 where
  pub wide : Option PushState
  pub starts : List User

-- the state that an epoch begins from
abbrev pub widened : PushState → Option PushState → PushState
widened s None = s
widened s (Some w) = w

-- The plan is of a quiet state: a state of at least its users, with their values, in which nobody is active, and all who start.
pub record IsFit (s : PushState) (p : Planned) : Type 0 where
  pub is_state : IsPushState (widened s p.wide)
  pub quiet : IsQuiet (widened s p.wide)
  pub values : (u : User) → value_in (widened s p.wide) u ≡ value_in s u
  pub within : (u : User) → has_user p.starts u ≡ true → has_user (widened s p.wide).users u ≡ true

-- The wide state has also those who stand in something new, and all values; nobody is active where nobody was.
pub record IsWide (ds : List DeltaLists) (s wide : PushState) : Type 0 where
  pub is_state : IsPushState wide
  pub quiet : IsQuiet s → IsQuiet wide
  pub values : (u : User) → value_in wide u ≡ value_in s u
  pub users : (u : User) → has_user wide.users u ≡ (has_user s.users u || are_told ds u)

-- The plan is what deltas tell: a wide state, and the starts of the new edges that the rule uses.
pub record IsPlan (r : Rule) (ds : List DeltaLists) (s : PushState) (p : Planned) : Type 0 where
  pub widens : IsWide ds s (widened s p.wide)
  pub all : (u : User) → has_user p.starts u ≡ is_started r ds u

-- the least active user
pub record IsLeastActive (s : PushState) (u : User) : Type 0 where
  pub active : is_active s u ≡ true
  pub least : (x : User) → is_active s x ≡ true → u.0 ≤ x.0

-- what a turn of u does
pub record IsTurnOf (r : Rule) (v : PartView) (u : User) (from to : ℕ) (old new : PushState) : Type 0 where
  pub on : On r v new
  pub moved : Moved r v u old new
  pub rested : is_active old u ≡ true → Rested r v new u
  pub reads : to + to_read r v new ≤ from + to_read r v old
  pub nearer : is_active old u ≡ true → to_turn r v new < to_turn r v old

-- what turns of all do, until nobody is active
pub record IsSettled (r : Rule) (v : PartView) (from to : ℕ) (old new : PushState) : Type 0 where
  pub on : On r v new
  pub quiet : IsQuiet new
  pub values : (u : User) → value_in new u ≡ least_cost (net_in r v old.users) u
  pub turns : IsRun r v old new
  pub idle : IsQuiet old → (new ≡ old) × (to ≡ from)
  pub reads : to + to_read r v new ≤ from + to_read r v old
