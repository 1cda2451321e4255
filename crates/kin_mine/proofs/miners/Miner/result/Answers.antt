use Rattle.kin_mine.proofs.Quiets.{quiet-result}
use Rattle.kin_mine.proofs.miners.Miner.result.Goals as goal

pub returns-in-None-clause-exact : goal.returns-in-None-clause-exact
returns-in-None-clause-exact c g k st = quiet-result g k c.args.self.now st (c.least_active.ensures.none c.in-None.is)
