use Rattle.std.proofs.Common.{◌≡◌, ◌<◌, ℕ, None, length, slice_index_or, unwrap_or}
use Rattle.kin_rules.specs.declared.pull_rules.Facts.{Facts}
use Rattle.kin_pull.specs.States.{row_in}
use Rattle.kin_pull.proofs.passes.shares_of.Given as goal

-- the shares so far
abbrev pub invariant-loop-i : goal.invariant-loop-i
invariant-loop-i g l = record {
  long : length l.shares.items ≡ l.i;
  each : (p : ℕ) (df : Facts) → p < l.i → slice_index_or l.shares.items p 0
      ≡ g.R.PullRule.share l.rule (slice_index_or l.kept.facts p df)
      (unwrap_or (slice_index_or l.drawn p None) (slice_index_or (row_in l.kept l.fn.layer) p l.first));
}
