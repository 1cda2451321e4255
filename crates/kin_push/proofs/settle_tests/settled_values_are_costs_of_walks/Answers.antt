use Rattle.std.proofs.Common.{◌≤◌, ◌^◌, ◌∙◌, length, arith}
use Rattle.kin_graph.specs.State.{view_of}
use Rattle.kin_rules.proofs.SmallViews.{few-small}
use Rattle.kin_push.proofs.settle_tests.settled_values_are_costs_of_walks.Goals as goal

pub walk_costs-requires : goal.walk_costs-requires
walk_costs-requires g c =
    let long = c.len.ensures in
    let few : length c.in_ok-users.users.items ≤ 2 ^ 27 = omega (arith, long) in
    record { small = few-small (view_of c.in_ok-store.store) c.in_ok-users.users.items (λ u h. c.in_ok-users.ensures.vertices u ∙ h) few }
