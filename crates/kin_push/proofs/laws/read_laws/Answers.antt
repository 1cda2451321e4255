use Rattle.kin_push.proofs.Epochs.{epoch-law}
use Rattle.kin_push.proofs.laws.read_laws.Goals as goal

pub returns : goal.returns
returns c = epoch-law
