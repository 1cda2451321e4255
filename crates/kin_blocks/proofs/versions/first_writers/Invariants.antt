use Rattle.std.proofs.Common.{◌≡◌, map}
use Rattle.std.specs.List.{range_with_len}
use Rattle.kin_graph.specs.State.{empty_part}
use Rattle.kin_blocks.specs.Blocks.{fresh}
use Rattle.kin_blocks.proofs.versions.first_writers.Given as goal

abbrev pub invariant-loop-p : goal.invariant-loop-p
invariant-loop-p l = l.writers.items ≡ map fresh (map (λ p. empty_part p l.parts) (range_with_len 0 l.p))
