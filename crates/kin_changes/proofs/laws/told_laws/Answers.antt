use Rattle.kin_changes.proofs.Counts.{counts-law}
use Rattle.kin_changes.proofs.Edges.{edges-law}
use Rattle.kin_changes.proofs.Members.{vertices-law}
use Rattle.kin_changes.proofs.laws.told_laws.Goals as goal

pub returns-clause-edges : goal.returns-clause-edges
returns-clause-edges c = edges-law

pub returns-clause-vertices : goal.returns-clause-vertices
returns-clause-vertices c = vertices-law

pub returns-clause-counts : goal.returns-clause-counts
returns-clause-counts c = counts-law
