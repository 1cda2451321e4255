use Rattle.kin_rules.proofs.Ascending.{searched-spot}
use Rattle.kin_rules.proofs.KeyOrders.{user_cmp-exact}
use Rattle.kin_push.proofs.States.{found-some, found-none}
use Rattle.kin_push.proofs.places.find.Goals as goal

pub returns-clause-some : goal.returns-clause-some
returns-clause-some c =
    found-some c.args.users.now c.args.u c.binary_search.result c.ok.result c.ok.ensures.value
    (searched-spot user_cmp-exact c.args.users.now c.args.u c.binary_search.result c.requires c.binary_search.ensures.bound
    c.binary_search.ensures.position)

pub returns-clause-none : goal.returns-clause-none
returns-clause-none c =
    found-none c.args.users.now c.args.u c.binary_search.result c.ok.result c.ok.ensures.value
    (searched-spot user_cmp-exact c.args.users.now c.args.u c.binary_search.result c.requires c.binary_search.ensures.bound
    c.binary_search.ensures.position)
