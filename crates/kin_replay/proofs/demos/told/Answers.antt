use Rattle.std.proofs.Common.{Some}
use Rattle.kin_world.proofs.Running.{on_err}
use Rattle.kin_replay.specs.Demos.{StandsForDemoFront}
use Rattle.kin_replay.proofs.DemoHistory.{whole-front}
use Rattle.kin_replay.proofs.demos.told.Goals as goal

pub returns-clause-err : goal.returns-clause-err
returns-clause-err c = on_err _ (StandsForDemoFront c.args.words (Some c.run_generated.new.world)) (whole-front c.args.words c.run_generated.new.world c.in_ok-run_generated.ensures.ok)
