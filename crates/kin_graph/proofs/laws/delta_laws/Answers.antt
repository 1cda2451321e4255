use Rattle.kin_graph.proofs.Determined.{tells-law, no_change-law}
use Rattle.kin_graph.proofs.laws.delta_laws.Goals as goal

pub returns : goal.returns
returns c = record { tells = tells-law; none = no_change-law }
