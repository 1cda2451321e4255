use Rattle.kin_rules.proofs.Spreads.{quiet-law, offer-law, came-to-rest}
use Rattle.kin_rules.proofs.laws.spread_laws.Goals as goal

pub returns-clause-quiet : goal.returns-clause-quiet
returns-clause-quiet c = quiet-law

pub returns-clause-offer : goal.returns-clause-offer
returns-clause-offer c = offer-law

pub returns-clause-rest : goal.returns-clause-rest
returns-clause-rest c = came-to-rest
