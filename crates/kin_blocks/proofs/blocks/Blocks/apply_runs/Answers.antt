use Rattle.std.proofs.Common.{◌≡◌, ◌∙◌, ap}
use Rattle.kin_graph.specs.State.{view_of}
use Rattle.kin_blocks.specs.Blocks.{GoesOn, MayTake, pieces_applied}
use Rattle.kin_blocks.proofs.Going.{goes-more, next-run, run-step}
use Rattle.kin_blocks.proofs.blocks.Blocks.apply_runs.Goals as goal

pub apply_run-requires : goal.apply_run-requires
apply_run-requires c = rw c.pieces.ensures
    (next-run c.args.epoch.0 c.args.self.now.latest c.loop-run.self.latest c.args.runs.now c.loop-run.run-index c.run-item.result
    c.loop-run-test.true c.run-item.is c.requires c.loop-run.invariant.goes c.loop-run.invariant.applied)

pub returns-in_err-apply_run-clause-goes : goal.returns-in_err-apply_run-clause-goes
returns-in_err-apply_run-clause-goes c = goes-more c.args.self.now.latest c.loop-run.self.latest c.apply_run.new.self.latest
    c.loop-run.invariant.goes c.apply_run.ensures.goes

pub loop-run-preserved : goal.loop-run-preserved
loop-run-preserved c = record {
  applied = c.in_ok-apply_run.ensures.ok ∙ (ap (pieces_applied c.args.epoch.0 (view_of c.loop-run.self.latest)) c.pieces.ensures
      ∙ run-step c.args.epoch.0 c.args.self.now.latest c.loop-run.self.latest c.args.runs.now c.loop-run.run-index c.run-item.result
      c.loop-run-test.true c.run-item.is c.loop-run.invariant.applied);
  goes = goes-more c.args.self.now.latest c.loop-run.self.latest c.apply_run.new.self.latest c.loop-run.invariant.goes
      c.apply_run.ensures.goes;
  frozen = c.apply_run.ensures.frozen ∙ c.loop-run.invariant.frozen;
}
