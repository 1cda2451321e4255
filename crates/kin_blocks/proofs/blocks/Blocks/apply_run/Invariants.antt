use Rattle.std.proofs.Common.{◌≡◌, take}
use Rattle.kin_graph.specs.State.{view_of}
use Rattle.kin_blocks.specs.Blocks.{pieces_applied, GoesOn}
use Rattle.kin_blocks.proofs.blocks.Blocks.apply_run.Given as goal

abbrev pub invariant-loop-piece : goal.invariant-loop-piece
invariant-loop-piece l = record {
  applied : view_of l.self.latest ≡ pieces_applied l.epoch.0 (view_of l.initial.self.latest) (take l.piece-index l.pieces);
  goes : GoesOn l.initial.self.latest l.self.latest;
  frozen : l.self.frozen ≡ l.initial.self.frozen;
}
