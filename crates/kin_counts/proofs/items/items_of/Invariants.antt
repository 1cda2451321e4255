use Rattle.std.proofs.Common.{◌≡◌, take}
use Rattle.kin_counts.specs.Tallies.{items_in}
use Rattle.kin_counts.proofs.items.items_of.Given as goal

abbrev pub invariant-loop-delta : goal.invariant-loop-delta
invariant-loop-delta l = l.total ≡ items_in (take l.delta-index l.deltas)
