use Rattle.kin_rules.proofs.Ascending.{searched-spot}
use Rattle.kin_rules.proofs.KeyOrders.{user_cmp-exact}
use Rattle.kin_pull.proofs.Found.{found-by, found-within}
use Rattle.kin_pull.proofs.places.find.Goals as goal

pub returns-clause-found : goal.returns-clause-found
returns-clause-found c =
    found-by c.args.users.now c.args.u c.binary_search.result c.ok.result c.ok.ensures.value
    (searched-spot user_cmp-exact c.args.users.now c.args.u c.binary_search.result c.requires c.binary_search.ensures.bound
    c.binary_search.ensures.position)

pub returns-clause-within : goal.returns-clause-within
returns-clause-within c =
    found-within c.args.users.now c.args.u c.binary_search.result c.ok.result c.ok.ensures.value
    (searched-spot user_cmp-exact c.args.users.now c.args.u c.binary_search.result c.requires c.binary_search.ensures.bound
    c.binary_search.ensures.position)
