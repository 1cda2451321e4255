use Rattle.std.proofs.Common.{◌≡◌, ◌<◌, ℕ, false, None, length, slice_index_or}
use Rattle.kin_rules.specs.declared.pull_rules.Facts.{Facts}
use Rattle.kin_pull.specs.Plans.{start_of}
use Rattle.kin_pull.proofs.begins.starts.Given as goal

-- so far
abbrev pub invariant-loop-i : goal.invariant-loop-i
invariant-loop-i g l = record {
  long : length l.low.items ≡ l.i;
  each : (p : ℕ) (df : Facts) → p < l.i → slice_index_or l.low.items p None ≡ start_of (g.R.PullRule.seen l.rule)
      (slice_index_or l.wired p false) (slice_index_or l.told p None) (slice_index_or l.facts p df);
}
