-- What turns do.
use Rattle.std.specs.Prelude.{◌≡◌, ◌⊎◌, ℕ, Bool, true, false, List, [], ◌∷◌, Option}
use Rattle.kin_ids.specs.declared.ids.User.{User}
use Rattle.kin_ids.specs.Parts.{PartView}
use Rattle.kin_rules.specs.declared.kinds.EdgeKind.{EdgeKind}
use Rattle.kin_rules.specs.Walks.{Rule, Net, IsEdge}
use Rattle.kin_rules.specs.Kept.{IsAtRest}
use Rattle.kin_push.specs.Facts.{Fell}
use Rattle.kin_push.specs.States.{PushState, value_in, is_active, net_in}

-- By a turn of u only ends of edges out of u change their values, and these fall. Who is active was, or its value fell; u isn't.
pub record IsMoved (net : Net) (u : User) (f : User → Option ℕ) (a : User → Bool) (g : User → Option ℕ) (b : User → Bool) : Type 0 where
  pub values : (x : User) → (g x ≡ f x) ⊎ (((k : EdgeKind) × IsEdge net k u x) × Fell (f x) (g x))
  pub actives : (x : User) → b x ≡ true → (a x ≡ true) ⊎ Fell (f x) (g x)
  pub turned : b u ≡ false

-- the same of states
pub record Moved (r : Rule) (v : PartView) (u : User) (old new : PushState) : Type 0 where
  pub users : new.users ≡ old.users
  pub moved : IsMoved (net_in r v old.users) u (value_in old) (is_active old) (value_in new) (is_active new)

-- no edge out of u offers its end less than it has
abbrev pub Rested : Rule → PartView → PushState → User → Type 0
Rested r v s u = IsAtRest (net_in r v s.users) (value_in s) u

-- turns that lead from one state to another, the last one first, each of a user that was active
abbrev pub AreTurns : Rule → PartView → PushState → List (User × PushState) → PushState → Type 0
AreTurns r v old [] new = new ≡ old
AreTurns r v old (t ∷ turns) new = AreTurns r v old turns t.1 × (is_active t.1 t.0 ≡ true) × Moved r v t.0 t.1 new

abbrev pub IsRun : Rule → PartView → PushState → PushState → Type 0
IsRun r v old new = (turns : List (User × PushState)) × AreTurns r v old turns new
