use Rattle.std.proofs.Common.{take}
use Rattle.kin_counts.specs.Changes.{Lowers, went}
use Rattle.kin_counts.proofs.changes.lower_all.Given as goal

abbrev pub invariant-loop-delta : goal.invariant-loop-delta
invariant-loop-delta l = Lowers l.initial.counted (went (take l.delta-index l.deltas)) l.counted
