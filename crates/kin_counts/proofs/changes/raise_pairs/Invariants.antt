use Rattle.std.proofs.Common.{take, count_by}
use Rattle.kin_changes.specs.Told.{is_of}
use Rattle.kin_counts.specs.Changes.{Raises, of_rule}
use Rattle.kin_counts.proofs.changes.raise_pairs.Given as goal

abbrev pub invariant-loop-pair : goal.invariant-loop-pair
invariant-loop-pair l = Raises l.initial.counted (of_rule l.which (λ x. count_by (is_of x) (take l.pair-index l.pairs))) l.counted
