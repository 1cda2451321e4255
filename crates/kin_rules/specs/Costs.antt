-- The least cost of a walk: what it is, and how it is found.
use Rattle.std.specs.Prelude.{◌≡◌, ◌*◌, ◌==◌, ◌&&◌, ◌||◌, ℕ, zero, suc, Bool, true, false, List, Option, Some, None, length, if◌then◌else◌}
use Rattle.std.specs.List.{list_any}
use Rattle.kin_ids.specs.declared.ids.User.{User}
use Rattle.kin_ids.specs.Users.{same_user, has_user}
use Rattle.kin_rules.specs.declared.kinds.EdgeKind.{EdgeKind}
use Rattle.kin_rules.specs.declared.kinds.EdgeKind.TheVariants as kind
use Rattle.kin_rules.specs.Walks.{Net, Step, Under, IsWalk, IsWhole, IsRule, cost}

-- a walk that leads to u at this cost
pub record Walked (net : Net) (u : User) (c : ℕ) : Type 0 where
  pub path : List Step
  pub walk : IsWalk net u path
  pub costs : cost net path ≡ Some c

-- The least cost of all walks from the landmark to u: it is the cost of a walk, and no walk costs less. There is none
-- where the landmark is no vertex, or where no walk leads to u.
pub record IsLeastCost (net : Net) (u : User) (least : Option ℕ) : Type 0 where
  pub outside : has_user net.users net.mark ≡ false → least ≡ None
  pub walked : (c : ℕ) → least ≡ Some c → Walked net u c
  pub under : has_user net.users net.mark ≡ true → (path : List Step) → IsWalk net u path → Under least (cost net path)

-- whether an edge makes this cost
abbrev pub gives : Option ℕ → ℕ → Bool
gives None c = false
gives (Some n) c = n == c

-- whether a number below n passes
abbrev pub any_below : (ℕ → Bool) → ℕ → Bool
any_below test zero = false
any_below test (suc n) = test n || any_below test n

-- the least number below n that passes
abbrev pub least_below : (ℕ → Bool) → ℕ → Option ℕ
least_below test zero = None
least_below test (suc n) = if any_below test n then least_below test n else (if test n then Some n else None)

-- whether an edge of a kind from w leads to u at the cost c, from a lesser cost at which w was reached before
abbrev pub by_edge : Net → (User → ℕ → Bool) → User → ℕ → EdgeKind → User → Bool
by_edge net before u c k w = has_user (net.ends k w) u && any_below (λ d. gives (net.along k d) c && before w d) c

-- whether a walk of at most so many edges leads from the landmark to u at the cost c
abbrev pub is_walked : Net → ℕ → User → ℕ → Bool
is_walked net zero u c = same_user u net.mark && c == 0
is_walked net (suc n) u c = (same_user u net.mark && c == 0)
    || list_any (λ w. by_edge net (is_walked net n) u c kind.Follow w || by_edge net (is_walked net n) u c kind.Mention w) net.users

-- a walk without a loop costs less
abbrev pub bound : Net → ℕ
bound net = net.most * length net.users

-- The least cost of a walk from the landmark to u, searched for: None where the landmark is no vertex or no walk leads
-- to u. Each edge costs at least 1, so a walk at the cost c has at most c edges.
unfoldable pub least_cost : Net → User → Option ℕ
least_cost net u = if has_user net.users net.mark then least_below (λ c. is_walked net c u c) (bound net) else None

-- at most one value is the least cost
abbrev pub LeastIsOne : Type 0
LeastIsOne = (net : Net) (u : User) (least other : Option ℕ) → IsLeastCost net u least → IsLeastCost net u other
    → least ≡ other

-- what is searched for is the least cost
abbrev pub CostIsLeast : Type 0
CostIsLeast = (net : Net) → IsRule net.along net.most → IsWhole net → (u : User) → IsLeastCost net u (least_cost net u)
