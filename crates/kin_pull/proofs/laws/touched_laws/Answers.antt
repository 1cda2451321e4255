use Rattle.kin_pull.proofs.Touched.{touched-law}
use Rattle.kin_pull.proofs.laws.touched_laws.Goals as goal

pub returns : goal.returns
returns c = touched-law
