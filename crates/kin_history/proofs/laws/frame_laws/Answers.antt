use Rattle.kin_history.proofs.Framed.{other-nodes, other-parts, raises-one, top-is}
use Rattle.kin_history.proofs.laws.frame_laws.Goals as goal

pub returns : goal.returns
returns c = record { nodes = other-nodes; parts = other-parts; raise = raises-one; top = top-is }
