use Rattle.kin_rules.proofs.LeastCosts.{least-law, one-law}
use Rattle.kin_rules.proofs.Kept.{rest-law}
use Rattle.kin_rules.proofs.Support.{support-law}
use Rattle.kin_rules.proofs.laws.cost_laws.Goals as goal

pub returns-clause-least : goal.returns-clause-least
returns-clause-least c = least-law

pub returns-clause-rest : goal.returns-clause-rest
returns-clause-rest c = rest-law

pub returns-clause-support : goal.returns-clause-support
returns-clause-support c = support-law

pub returns-clause-one : goal.returns-clause-one
returns-clause-one c = one-law
