-- Values that rest on an edge into each user, in place of a walk to it: what stays when edges go.
use Rattle.std.specs.Prelude.{◌≡◌, ◌⊎◌, ℕ, true, Option, Some}
use Rattle.kin_ids.specs.declared.ids.User.{User}
use Rattle.kin_ids.specs.Users.{has_user}
use Rattle.kin_rules.specs.declared.kinds.EdgeKind.{EdgeKind}
use Rattle.kin_rules.specs.Walks.{Net, AtMost, IsEdge, IsWhole, IsRule}
use Rattle.kin_rules.specs.Kept.{IsAtRest, HasStart}
use Rattle.kin_rules.specs.Costs.{least_cost}

-- an edge into u offers at most n
pub record IsSupported (net : Net) (f : User → Option ℕ) (u : User) (n : ℕ) : Type 0 where
  pub start : User
  pub kind : EdgeKind
  pub value : ℕ
  pub has_value : f start ≡ Some value
  pub edge : IsEdge net kind start u
  pub offers : AtMost (net.along kind value) n

-- each value is the landmark's, or rests on an edge
abbrev pub AreSupported : Net → (User → Option ℕ) → Type 0
AreSupported net f = (u : User) (n : ℕ) → f u ≡ Some n → ((u ≡ net.mark) × (has_user net.users u ≡ true)) ⊎ IsSupported net f u n

abbrev pub SupportIsLeast : Type 0
SupportIsLeast = (net : Net) (f : User → Option ℕ) → IsRule net.along net.most → IsWhole net → AreSupported net f → HasStart net f → ((w : User) → IsAtRest net f w) →
    (u : User) → f u ≡ least_cost net u
