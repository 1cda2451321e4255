use Rattle.std.proofs.Common.{◌≡◌, ◌*◌, List, length}
use Rattle.kin_ids.specs.declared.ids.User.{User}
use Rattle.kin_ids.specs.Graph.{Graph}
use Rattle.kin_rules.specs.Edges.{AreEdgesOf}
use Rattle.kin_rules.specs.Going.{Going}
use Rattle.kin_rules.specs.Nets.{net_of, net_on}
use Rattle.kin_rules.proofs.rounds.Walk.run.Given as goal

pub record SoFar (Length Least : Type 0) : Type 0 where
  pub kept : Length
  pub least : Least

-- the values keep their number, and on each graph whose edges these are, the rounds have come so far
abbrev pub invariant-loop-cost : goal.invariant-loop-cost
invariant-loop-cost g l = SoFar (length l.self.values ≡ length l.fn.self.values) ((graph : Graph) (us : List User) → AreEdgesOf graph us l.follows l.mentions → l.limit ≡ 3 * length us
    → Going (net_on us (net_of (g.R.PushRule.seen l.rule) graph)) us 0 l.fn.self → Going (net_on us (net_of (g.R.PushRule.seen l.rule) graph)) us l.cost l.self)
