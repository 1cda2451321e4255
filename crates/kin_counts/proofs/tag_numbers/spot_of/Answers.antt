use Rattle.kin_rules.proofs.Ascending.{searched-spot}
use Rattle.kin_rules.proofs.KeyOrders.{tag_cmp-exact}
use Rattle.kin_counts.proofs.tag_numbers.spot_of.Goals as goal

pub returns : goal.returns
returns c = searched-spot tag_cmp-exact c.args.tags.now c.args.t c.binary_search.result c.requires c.binary_search.ensures.bound
    c.binary_search.ensures.position
