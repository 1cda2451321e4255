use Rattle.std.proofs.Common.{subst}
use Rattle.kin_hub.specs.Stands.{HasStory}
use Rattle.kin_hub.proofs.Goings.{ready-longest}
use Rattle.kin_hub.proofs.hubs.Hub.ready.Goals as goal

pub returns-clause-run : goal.returns-clause-run
returns-clause-run c = ready-longest c.args.self.now c.args.i.0 (subst HasStory c.self.view_is c.self.invariant)
