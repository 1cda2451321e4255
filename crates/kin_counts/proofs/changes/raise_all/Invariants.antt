use Rattle.std.proofs.Common.{take}
use Rattle.kin_counts.specs.Changes.{Raises, came}
use Rattle.kin_counts.proofs.changes.raise_all.Given as goal

abbrev pub invariant-loop-delta : goal.invariant-loop-delta
invariant-loop-delta l = Raises l.initial.counted (came (take l.delta-index l.deltas)) l.counted
