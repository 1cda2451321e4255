use Rattle.std.proofs.Common.{◌≡◌, ◌≤◌, ◌<◌, ℕ, false}
use Rattle.kin_pull.specs.TurnSteps.{shows_turned}
use Rattle.kin_pull.proofs.turns.shown_from.Given as goal

-- so far
abbrev pub invariant-loop-layer : goal.invariant-loop-layer
invariant-loop-layer g l = record {
  most : l.layer ≤ g.R.PullRule.LAYERS;
  hidden : (j : ℕ) → j < l.layer → shows_turned (g.R.PullRule.seen l.rule) l.users l.kept l.column l.fn.u j ≡ false;
}
