use Rattle.std.proofs.Common.{◌≤◌, map}
use Rattle.kin_pull.specs.Plans.{AreCopied}
use Rattle.kin_pull.proofs.begins.rows.Given as goal

-- so far
abbrev pub invariant-loop-layer : goal.invariant-loop-layer
invariant-loop-layer g l = record {
  most : l.layer ≤ g.R.PullRule.LAYERS;
  rows : AreCopied (g.R.PullRule.seen l.rule).first l.users l.kept l.more l.layer (map (λ r. r.items) l.rows.items);
}
