use Rattle.std.proofs.Common.{◌≡◌, take}
use Rattle.kin_graph.specs.State.{view_of}
use Rattle.kin_blocks.specs.Blocks.{pieces_applied, pieces_of, GoesOn}
use Rattle.kin_blocks.proofs.blocks.Blocks.apply_runs.Given as goal

abbrev pub invariant-loop-run : goal.invariant-loop-run
invariant-loop-run l = record {
  applied : view_of l.self.latest ≡ pieces_applied l.epoch.0 (view_of l.initial.self.latest) (pieces_of (take l.run-index l.runs));
  goes : GoesOn l.initial.self.latest l.self.latest;
  frozen : l.self.frozen ≡ l.initial.self.frozen;
}
