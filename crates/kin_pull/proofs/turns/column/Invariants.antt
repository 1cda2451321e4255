use Rattle.std.proofs.Common.{◌≤◌}
use Rattle.kin_pull.specs.TurnSteps.{IsColumn}
use Rattle.kin_pull.proofs.turns.column.Given as goal

-- so far
abbrev pub invariant-loop-layer : goal.invariant-loop-layer
invariant-loop-layer g l = record {
  most : l.layer ≤ g.R.PullRule.LAYERS;
  column : IsColumn (g.R.PullRule.seen l.rule) (g.V.View.seen l.view) l.users l.kept l.fn.u l.layer l.column.items;
}
