use Rattle.kin_pull.proofs.Standing.{idle-law, rest-law, turn-law, pass-law}
use Rattle.kin_pull.proofs.laws.fact_laws.Goals as goal

pub returns-clause-idle : goal.returns-clause-idle
returns-clause-idle g c = idle-law g.row.V.Denot

pub returns-clause-rest : goal.returns-clause-rest
returns-clause-rest g c = rest-law g.row.V.Denot

pub returns-clause-turn : goal.returns-clause-turn
returns-clause-turn g c = turn-law g.row.V.Denot

pub returns-clause-pass : goal.returns-clause-pass
returns-clause-pass g c = pass-law g.row.V.Denot
