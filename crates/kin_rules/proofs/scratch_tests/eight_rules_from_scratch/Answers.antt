use Rattle.std.proofs.Common.{◌≤◌, ◌^◌, ◌∙◌, length, arith}
use Rattle.kin_graph.specs.State.{view_of}
use Rattle.kin_rules.proofs.SmallViews.{few-small}
use Rattle.kin_rules.proofs.scratch_tests.eight_rules_from_scratch.Goals as goal

pub scratch-requires : goal.scratch-requires
scratch-requires g c =
    let long = c.len.ensures in
    let few : length c.in_ok-users.users.items ≤ 2 ^ 27 = omega (arith, long) in
    few-small (view_of c.in_ok-store.store) c.in_ok-users.users.items (λ u h. c.in_ok-users.ensures.vertices u ∙ h) few
