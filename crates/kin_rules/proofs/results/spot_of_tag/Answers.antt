use Rattle.kin_rules.proofs.KeyOrders.{tag_cmp-exact}
use Rattle.kin_rules.proofs.results.spot_of_tag.Goals as goal

pub spot_of-requires-clause-ties : goal.spot_of-requires-clause-ties
spot_of-requires-clause-ties c = tag_cmp-exact.exact
