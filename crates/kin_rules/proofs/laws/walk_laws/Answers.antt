use Rattle.kin_rules.proofs.Nets.{edges-seen, nets-whole}
use Rattle.kin_rules.proofs.Instances.{hops-count, close-adds, hops-least, close-least}
use Rattle.kin_rules.proofs.laws.walk_laws.Goals as goal

pub returns-clause-edges : goal.returns-clause-edges
returns-clause-edges c = edges-seen

pub returns-clause-whole : goal.returns-clause-whole
returns-clause-whole c = nets-whole

pub returns-clause-hops_cost : goal.returns-clause-hops_cost
returns-clause-hops_cost c = hops-count

pub returns-clause-close_cost : goal.returns-clause-close_cost
returns-clause-close_cost c = close-adds

pub returns-clause-hops : goal.returns-clause-hops
returns-clause-hops c = hops-least

pub returns-clause-close : goal.returns-clause-close
returns-clause-close c = close-least
