-- Values that users keep, each the cost of a walk, and when they are the least costs.
use Rattle.std.specs.Prelude.{◌≡◌, ℕ, true, List, [], ◌∷◌, Option, Some, if◌then◌else◌}
use Rattle.kin_ids.specs.declared.ids.User.{User}
use Rattle.kin_ids.specs.Users.{same_user, has_user}
use Rattle.kin_ids.specs.Follows.{IsOnce}
use Rattle.kin_rules.specs.declared.kinds.EdgeKind.{EdgeKind}
use Rattle.kin_rules.specs.Walks.{Net, Step, AtMost, Under, IsEdge, IsWalk, IsWhole, IsRule, cost}
use Rattle.kin_rules.specs.Costs.{least_cost}

abbrev pub starts : List Step → List User
starts [] = []
starts (s ∷ ws) = s.start ∷ starts ws

abbrev pub Within : List User → List User → Type 0
Within [] vs = Unit {0}
Within (x ∷ xs) vs = (has_user vs x ≡ true) × Within xs vs

-- every user of the walk has a value, at most the cost up to it
abbrev pub Low : Net → (User → Option ℕ) → User → List Step → Type 0
Low net f u [] = AtMost (f u) 0
Low net f u (s ∷ ws) = Under (f u) (cost net (s ∷ ws)) × Low net f s.start ws

-- the value n of u is the cost of a walk without repeated users
pub record IsKept (net : Net) (f : User → Option ℕ) (u : User) (n : ℕ) : Type 0 where
  pub path : List Step
  pub walk : IsWalk net u path
  pub costs : cost net path ≡ Some n
  pub once : IsOnce same_user (u ∷ starts path)
  pub low : Low net f u path
  pub within : Within (u ∷ starts path) net.users

abbrev pub AreKept : Net → (User → Option ℕ) → Type 0
AreKept net f = (u : User) (n : ℕ) → f u ≡ Some n → IsKept net f u n

-- no edge out of w offers its end a lesser value
abbrev pub IsAtRest : Net → (User → Option ℕ) → User → Type 0
IsAtRest net f w = (k : EdgeKind) (u : User) (n : ℕ) → f w ≡ Some n → IsEdge net k w u → Under (f u) (net.along k n)

-- the landmark has 0 where it is a vertex
abbrev pub HasStart : Net → (User → Option ℕ) → Type 0
HasStart net f = has_user net.users net.mark ≡ true → AtMost (f net.mark) 0

-- the values after u took n
abbrev pub lowered : (User → Option ℕ) → User → ℕ → User → Option ℕ
lowered f u n x = if same_user u x then Some n else f x

-- kept values that are all at rest are the least costs
abbrev pub RestIsLeast : Type 0
RestIsLeast = (net : Net) (f : User → Option ℕ) → IsRule net.along net.most → IsWhole net → AreKept net f → HasStart net f → ((w : User) → IsAtRest net f w) →
    (u : User) → f u ≡ least_cost net u
