use Rattle.std.proofs.Common.{◌≡◌, map, slice_index, take}
use Rattle.kin_rules.proofs.widenings.numbers_by.Given as goal

abbrev pub invariant-loop-at : goal.invariant-loop-at
invariant-loop-at l = l.moved.items ≡ map (slice_index l.numbers) (take l.at-index l.places)
