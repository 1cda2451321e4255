use Rattle.std.proofs.Common.{ℕ, ◌<◌, ◌≤◌}
use Rattle.kin_blocks.specs.Versions.{committed_at}
use Rattle.kin_bench.proofs.epochs.release.Given as goal

abbrev pub invariant-loop-p : goal.invariant-loop-p
invariant-loop-p l = (q : ℕ) → q < l.p → l.least ≤ committed_at l.versions q
