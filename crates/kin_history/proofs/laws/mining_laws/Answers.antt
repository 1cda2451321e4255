use Rattle.kin_history.proofs.Mined.{mined-order}
use Rattle.kin_history.proofs.Drained.{drain-is, drained}
use Rattle.kin_history.proofs.laws.mining_laws.Goals as goal

pub returns : goal.returns
returns c = record { in_order = mined-order; drain = drain-is; drained = drained }
