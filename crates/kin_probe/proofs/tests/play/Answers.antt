use Rattle.kin_probe.proofs.Beginning.{has-after}
use Rattle.kin_probe.proofs.tests.play.Goals as goal

pub returns : goal.returns
returns g c = has-after _ _ _ _ c.requires c.in_ok-run.ensures.runs
