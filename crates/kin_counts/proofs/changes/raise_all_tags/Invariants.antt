use Rattle.std.proofs.Common.{take}
use Rattle.kin_changes.specs.Told.{tag_more}
use Rattle.kin_counts.specs.Changes.{RaisesTags}
use Rattle.kin_counts.proofs.changes.raise_all_tags.Given as goal

abbrev pub invariant-loop-delta : goal.invariant-loop-delta
invariant-loop-delta l = RaisesTags l.initial.counted (tag_more (take l.delta-index l.deltas)) l.counted
