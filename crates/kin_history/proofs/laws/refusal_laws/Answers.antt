use Rattle.kin_history.proofs.Refused.{refused}
use Rattle.kin_history.proofs.laws.refusal_laws.Goals as goal

pub returns : goal.returns
returns c = refused
