-- What hops and closeness see of a graph, and their values.
use Rattle.std.specs.Prelude.{◌≡◌, ℕ, List, Option, Some, None, map, length, if◌then◌else◌}
use Rattle.std.specs.List.{list_any, list_all, sum_by, filter_map}
use Rattle.std.specs.Option.{option_map}
use Rattle.kin_ids.specs.declared.ids.User.{User}
use Rattle.kin_ids.specs.Users.{has_user}
use Rattle.kin_ids.specs.Graph.{Graph, is_mention, outs, mentions_of, vertices}
use Rattle.kin_ids.specs.Follows.{was_added}
use Rattle.kin_rules.specs.declared.kinds.EdgeKind.{EdgeKind}
use Rattle.kin_rules.specs.declared.kinds.EdgeKind.TheVariants as kind
use Rattle.kin_rules.specs.declared.numbers.UserNumber.{UserNumber}
use Rattle.kin_rules.specs.Walks.{Rule, Net, Step, IsWhole, cost}
use Rattle.kin_rules.specs.Costs.{least_cost, IsLeastCost}
use Rattle.kin_rules.specs.Instances.{hops_rule, close_rule, is_follow, edge_cost}

-- the ends of the edges of a kind out of a user: a follow edge ever added is one, present or not
abbrev pub ends_of : Graph → EdgeKind → User → List User
ends_of g kind.Follow u = map (λ h. h.other) (outs g u)
ends_of g kind.Mention u = mentions_of g u

-- what a rule sees of a graph
abbrev pub net_of : Rule → Graph → Net
net_of r g = record { along = r.along; ends = ends_of g; users = vertices g; mark = r.mark; most = r.most }

-- the same, where the vertices are listed in this way
abbrev pub net_on : List User → Net → Net
net_on us net = record net { users = us }

-- hops: the least number of follow edges of a walk from the landmark to u
abbrev pub IsHops : Graph → User → User → Option ℕ → Type 0
IsHops g landmark u hops = IsLeastCost (net_of (hops_rule landmark) g) u hops

-- closeness: the least cost of a walk from the landmark to u, where a mention edge costs 1 and a follow edge 3
abbrev pub IsClose : Graph → User → User → Option ℕ → Type 0
IsClose g landmark u cost = IsLeastCost (net_of (close_rule landmark) g) u cost

-- the least cost of a walk under a rule, searched for
abbrev pub least_of : Rule → Graph → User → Option ℕ
least_of r g u = least_cost (net_of r g) u

-- hops, searched for
abbrev pub hops_of : Graph → User → User → Option ℕ
hops_of g landmark u = least_of (hops_rule landmark) g u

-- closeness, searched for
abbrev pub close_of : Graph → User → User → Option ℕ
close_of g landmark u = least_of (close_rule landmark) g u

-- an edge is seen for each follow edge ever added and for each mention edge
abbrev pub EdgesAreSeen : Type 0
EdgesAreSeen = (g : Graph) (w u : User) → (has_user (ends_of g kind.Follow w) u ≡ was_added g w u) × (has_user (ends_of g kind.Mention w) u ≡ list_any (is_mention w u) g.mentions)

-- both ends of an edge are vertices
abbrev pub NetsAreWhole : Type 0
NetsAreWhole = (r : Rule) (g : Graph) → IsWhole (net_of r g)

-- a walk over follow edges counts its edges, and a walk with a mention edge isn't used
abbrev pub HopsCountEdges : Type 0
HopsCountEdges = (g : Graph) (landmark : User) (path : List Step) → cost (net_of (hops_rule landmark) g) path ≡ (if list_all (λ s. is_follow s.kind) path then Some (length path) else None)

-- a walk costs 3 for each follow edge and 1 for each mention edge
abbrev pub CloseAddsUp : Type 0
CloseAddsUp = (g : Graph) (landmark : User) (path : List Step) → cost (net_of (close_rule landmark) g) path ≡ Some (sum_by (λ s. edge_cost s.kind) path)

-- what is searched for are hops and closeness
abbrev pub HopsAreLeast : Type 0
HopsAreLeast = (g : Graph) (landmark u : User) → IsHops g landmark u (hops_of g landmark u)

abbrev pub CloseIsLeast : Type 0
CloseIsLeast = (g : Graph) (landmark u : User) → IsClose g landmark u (close_of g landmark u)

-- the users with a value, each with it
abbrev pub valued_users : (User → Option ℕ) → List User → List UserNumber
valued_users f us = filter_map (λ u. option_map (λ n. record { user = u; number = n }) (f u)) us
