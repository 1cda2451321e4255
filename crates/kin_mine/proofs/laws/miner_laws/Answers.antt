use Rattle.kin_mine.proofs.Quiets.{quiet-result}
use Rattle.kin_mine.proofs.laws.miner_laws.Goals as goal

pub returns : goal.returns
returns c = quiet-result
