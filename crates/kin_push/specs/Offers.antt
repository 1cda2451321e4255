-- What offers of one value leave, while a user makes its turn.
use Rattle.std.specs.Prelude.{◌≡◌, ◌≤◌, ◌⊎◌, ℕ, Bool, true, List, Option, Some}
use Rattle.kin_ids.specs.declared.ids.User.{User}
use Rattle.kin_ids.specs.Users.{has_user}
use Rattle.kin_rules.specs.declared.kinds.EdgeKind.{EdgeKind}
use Rattle.kin_ids.specs.Parts.{PartView}
use Rattle.kin_rules.specs.Walks.{Rule, Net, AtMost, Under, IsEdge}
use Rattle.kin_push.specs.Facts.{IsOn, Fell, exceeds}
use Rattle.kin_push.specs.Potential.{potential}
use Rattle.kin_push.specs.States.{PushState, value_in, is_active, net_in}

-- a user's value and mark are as they were
abbrev pub Stays : Option ℕ → Bool → Option ℕ → Bool → Type 0
Stays o a p b = (p ≡ o) × (b ≡ a)

-- it took the offer of m, which was less than it had, and is active
abbrev pub Takes : ℕ → Option ℕ → Option ℕ → Bool → Type 0
Takes m o p b = (exceeds o m ≡ true) × (p ≡ Some m) × (b ≡ true)

-- some of the ends took the offer of m, and all others stay as they were
pub record IsPushed (ends : List User) (m : ℕ) (f : User → Option ℕ) (a : User → Bool) (g : User → Option ℕ) (b : User → Bool) : Type 0
  where
    pub each : (x : User) → Stays (f x) (a x) (g x) (b x) ⊎ ((has_user ends x ≡ true) × Takes m (f x) (g x) (b x))

-- each of the ends has at most m
abbrev pub IsTaken : List User → ℕ → (User → Option ℕ) → Type 0
IsTaken ends m g = (x : User) → has_user ends x ≡ true → AtMost (g x) m

-- no edge of the kind out of u offers its end less than it has
abbrev pub IsAtRestBy : Net → (User → Option ℕ) → EdgeKind → User → Type 0
IsAtRestBy net f k u = (x : User) (n : ℕ) → f u ≡ Some n → IsEdge net k u x → Under (f x) (net.along k n)

-- the value of x is what it was, or x is the end of an edge out of u and its value fell
abbrev pub IsSent : Net → User → User → Option ℕ → Option ℕ → Type 0
IsSent net u x o p = (p ≡ o) ⊎ (((k : EdgeKind) × IsEdge net k u x) × Fell o p)

-- Within a turn of u the facts stand, only ends of edges out of u change, and u keeps its value and is active. What may still be read
-- doesn't grow, whatever a user's turn reads.
pub record IsTurning (net : Net) (u : User) (f : User → Option ℕ) (a : User → Bool) (g : User → Option ℕ) (b : User → Bool) : Type 0 where
  pub on : IsOn net g b
  pub values : (x : User) → IsSent net u x (f x) (g x)
  pub actives : (x : User) → b x ≡ true → (a x ≡ true) ⊎ Fell (f x) (g x)
  pub value : g u ≡ f u
  pub active : b u ≡ true
  pub paid : (reads : User → ℕ) → potential net reads g b ≤ potential net reads f a

-- the same of states of the same users over a view
abbrev pub Pushed : List User → ℕ → PushState → PushState → Type 0
Pushed ends m old new = IsPushed ends m (value_in old) (is_active old) (value_in new) (is_active new)

abbrev pub Turning : Rule → PartView → User → PushState → PushState → Type 0
Turning r v u old new = IsTurning (net_in r v old.users) u (value_in old) (is_active old) (value_in new) (is_active new)

abbrev pub RestedBy : Rule → PartView → PushState → EdgeKind → User → Type 0
RestedBy r v s k u = IsAtRestBy (net_in r v s.users) (value_in s) k u
