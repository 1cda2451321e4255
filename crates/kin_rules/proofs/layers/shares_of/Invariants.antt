use Rattle.std.proofs.Common.{◌≡◌, ◌<◌, ℕ, get_or, length}
use Rattle.kin_rules.specs.declared.pull_rules.Facts.{Facts}
use Rattle.kin_rules.proofs.layers.shares_of.Given as goal

-- the shares so far
abbrev pub invariant-loop-k : goal.invariant-loop-k
invariant-loop-k g l = record {
  long : length l.shares.items ≡ l.k;
  each : (k : ℕ) (df : Facts) (d : g.row.R-Value.Denot) → k < l.k → get_or l.shares.items k 0 ≡ g.R.PullRule.share l.rule (get_or l.facts k df) (get_or l.row k d);
}
