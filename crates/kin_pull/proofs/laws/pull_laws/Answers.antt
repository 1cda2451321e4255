use Rattle.kin_pull.proofs.Epochs.{empty-law, begin-law, quiet-law, view-law, reads-law, layers-law}
use Rattle.kin_pull.proofs.laws.pull_laws.Goals as goal

pub returns-clause-empty : goal.returns-clause-empty
returns-clause-empty g c = empty-law g.row.V.Denot

pub returns-clause-begins : goal.returns-clause-begins
returns-clause-begins g c = begin-law g.row.V.Denot

pub returns-clause-quiet : goal.returns-clause-quiet
returns-clause-quiet g c = quiet-law g.row.V.Denot

pub returns-clause-view : goal.returns-clause-view
returns-clause-view g c = view-law g.row.V.Denot

pub returns-clause-reads : goal.returns-clause-reads
returns-clause-reads g c = reads-law g.row.V.Denot

pub returns-clause-layers : goal.returns-clause-layers
returns-clause-layers g c = layers-law g.row.V.Denot
