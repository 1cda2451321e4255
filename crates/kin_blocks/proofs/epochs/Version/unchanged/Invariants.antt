use Rattle.std.proofs.Common.{◌≡◌}
use Rattle.std.specs.Prelude.{replicate}
use Rattle.kin_graph.specs.Deltas.{no_change}
use Rattle.kin_blocks.proofs.epochs.Version.unchanged.Given as goal

abbrev pub invariant-loop-part : goal.invariant-loop-part
invariant-loop-part l = l.deltas.items ≡ replicate l._part no_change
