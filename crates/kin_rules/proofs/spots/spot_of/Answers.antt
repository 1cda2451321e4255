use Rattle.kin_rules.proofs.Orders.{IsExact}
use Rattle.kin_rules.proofs.Ascending.{searched-spot}
use Rattle.kin_rules.proofs.spots.spot_of.Goals as goal

pub returns : goal.returns
returns g c =
    let o : IsExact g.K.Ord.cmp = record { total = g.met.K.Ord.total; exact = c.requires.ties } in
    searched-spot o c.args.keys.now c.args.key.now c.binary_search.result c.requires.ascend c.binary_search.ensures.bound c.binary_search.ensures.position
