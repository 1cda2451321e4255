-- Hops and closeness.
use Rattle.std.specs.Prelude.{ℕ, ◌+◌, Bool, true, false, Option, Some, None}
use Rattle.kin_ids.specs.declared.ids.User.{User}
use Rattle.kin_rules.specs.declared.kinds.EdgeKind.{EdgeKind}
use Rattle.kin_rules.specs.declared.kinds.EdgeKind.TheVariants as kind
use Rattle.kin_rules.specs.declared.push_rules.Distance.{Distance}
use Rattle.kin_rules.specs.declared.push_rules.Distance.TheVariants as distance
use Rattle.kin_rules.specs.Walks.{Rule}

-- a follow edge counts one, and mention edges aren't used
abbrev pub hops : EdgeKind → ℕ → Option ℕ
hops kind.Follow v = Some (v + 1)
hops kind.Mention v = None

-- a follow edge costs 3, and a mention edge 1
abbrev pub close : EdgeKind → ℕ → Option ℕ
close kind.Follow v = Some (v + 3)
close kind.Mention v = Some (v + 1)

abbrev pub hops_rule : User → Rule
hops_rule landmark = record { along = hops; mark = landmark; most = 1 }

abbrev pub close_rule : User → Rule
close_rule landmark = record { along = close; mark = landmark; most = 3 }

-- the rule of a distance
abbrev pub distance_rule : Distance → User → Rule
distance_rule distance.Hops landmark = hops_rule landmark
distance_rule distance.Close landmark = close_rule landmark

abbrev pub is_follow : EdgeKind → Bool
is_follow kind.Follow = true
is_follow kind.Mention = false

abbrev pub edge_cost : EdgeKind → ℕ
edge_cost kind.Follow = 3
edge_cost kind.Mention = 1
