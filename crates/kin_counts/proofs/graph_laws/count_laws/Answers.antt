use Rattle.kin_counts.proofs.Laws.{count-law}
use Rattle.kin_counts.proofs.graph_laws.count_laws.Goals as goal

pub returns : goal.returns
returns c = count-law
