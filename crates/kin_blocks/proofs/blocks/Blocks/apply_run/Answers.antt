use Rattle.std.proofs.Common.{◌≡◌, ◌∙◌}
use Rattle.kin_graph.specs.State.{after, view_of}
use Rattle.kin_blocks.specs.Blocks.{GoesOn}
use Rattle.kin_blocks.proofs.Going.{goes-more, next-of, next-said, next-step}
use Rattle.kin_blocks.proofs.blocks.Blocks.apply_run.Goals as goal

pub apply_piece-requires-clause-of_store : goal.apply_piece-requires-clause-of_store
apply_piece-requires-clause-of_store c = next-of c.args.epoch.0 c.args.self.now.latest c.loop-piece.self.latest c.args.pieces.now
    c.loop-piece.piece-index c.piece-item.result c.loop-piece-test.true c.piece-item.is c.requires c.loop-piece.invariant.goes

pub apply_piece-requires-clause-said : goal.apply_piece-requires-clause-said
apply_piece-requires-clause-said c = next-said c.args.epoch.0 c.args.self.now.latest c.loop-piece.self.latest c.args.pieces.now
    c.loop-piece.piece-index c.piece-item.result c.loop-piece-test.true c.piece-item.is c.requires c.loop-piece.invariant.applied

pub returns-in_err-apply_piece-clause-goes : goal.returns-in_err-apply_piece-clause-goes
returns-in_err-apply_piece-clause-goes c = goes-more c.args.self.now.latest c.loop-piece.self.latest c.apply_piece.new.self.latest
    c.loop-piece.invariant.goes c.apply_piece.ensures.goes

pub loop-piece-preserved : goal.loop-piece-preserved
loop-piece-preserved c = record {
  applied = c.in_ok-apply_piece.ensures.ok ∙ next-step c.args.epoch.0 c.args.self.now.latest c.loop-piece.self.latest c.args.pieces.now
      c.loop-piece.piece-index c.piece-item.result c.loop-piece-test.true c.piece-item.is c.loop-piece.invariant.applied;
  goes = goes-more c.args.self.now.latest c.loop-piece.self.latest c.apply_piece.new.self.latest c.loop-piece.invariant.goes
      c.apply_piece.ensures.goes;
  frozen = c.apply_piece.ensures.frozen ∙ c.loop-piece.invariant.frozen;
}
