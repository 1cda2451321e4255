-- Walks from a landmark, and what they cost.
use Rattle.std.specs.Prelude.{◌≡◌, ◌≤◌, ◌<◌, ◌+◌, ℕ, true, List, [], ◌∷◌, Option, Some, None, is_some}
use Rattle.kin_ids.specs.declared.ids.User.{User}
use Rattle.kin_ids.specs.Users.{has_user}
use Rattle.kin_rules.specs.declared.kinds.EdgeKind.{EdgeKind}

-- A rule: what an edge of a kind makes of the cost at its start (None where the rule doesn't use the kind), the landmark,
-- and how much an edge adds at most.
pub record Rule : Type 0 where
  pub along : EdgeKind → ℕ → Option ℕ
  pub mark : User
  pub most : ℕ

-- what a rule sees of a graph: its own parts, the ends of the edges of a kind out of a user, and the vertices
pub record Net : Type 0 where
  pub along : EdgeKind → ℕ → Option ℕ
  pub ends : EdgeKind → User → List User
  pub users : List User
  pub mark : User
  pub most : ℕ

-- an edge of a walk, by its start and its kind
pub record Step : Type 0 where
  pub start : User
  pub kind : EdgeKind

abbrev pub passed : (ℕ → Option ℕ) → Option ℕ → Option ℕ
passed f None = None
passed f (Some n) = f n

-- what a walk costs, its last edge first
abbrev pub cost : Net → List Step → Option ℕ
cost net [] = Some 0
cost net (s ∷ ws) = passed (net.along s.kind) (cost net ws)

abbrev pub IsEdge : Net → EdgeKind → User → User → Type 0
IsEdge net k w u = has_user (net.ends k w) u ≡ true

-- a walk from the landmark to u, its last edge first
abbrev pub IsWalk : Net → User → List Step → Type 0
IsWalk net u [] = u ≡ net.mark
IsWalk net u (s ∷ ws) = IsEdge net s.kind s.start u × IsWalk net s.start ws

-- both ends of each edge are vertices
abbrev pub IsWhole : Net → Type 0
IsWhole net = (k : EdgeKind) (w u : User) → IsEdge net k w u → (has_user net.users w ≡ true) × (has_user net.users u ≡ true)

-- a value is there and at most n
abbrev pub AtMost : Option ℕ → ℕ → Type 0
AtMost None n = ⊥
AtMost (Some m) n = m ≤ n

-- the second is nothing below the first
abbrev pub Under : Option ℕ → Option ℕ → Type 0
Under o None = Unit {0}
Under o (Some n) = AtMost o n

-- What is asked of a rule: whether it uses a kind doesn't depend on the cost; a greater cost leads to none that is less;
-- and each edge adds at least 1 and at most `most`, which is at most 3.
pub record IsRule (along : EdgeKind → ℕ → Option ℕ) (most : ℕ) : Type 0 where
  pub by_kind : (k : EdgeKind) (v w : ℕ) → is_some (along k v) ≡ is_some (along k w)
  pub monotone : (k : EdgeKind) (v w : ℕ) → v ≤ w → Under (along k v) (along k w)
  pub grows : (k : EdgeKind) (v n : ℕ) → along k v ≡ Some n → (v < n) × (n ≤ v + most)
  pub some : 0 < most
  pub few : most ≤ 3
