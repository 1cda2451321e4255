use Rattle.std.proofs.Common.{◌∙◌, sym}
use Rattle.kin_pull.proofs.Plans.{uses-there}
use Rattle.kin_pull.proofs.deltas.put_use.Goals as goal

pub returns-in_ok-push-clause-facts : goal.returns-in_ok-push-clause-facts
returns-in_ok-push-clause-facts c = λ x there.
    uses-there c.args.users.now c.args.facts.now.items c.args.u c.in-Some.i c.requires.long (sym c.find.ensures.found
    ∙ c.in-Some.is) c.index_mut.result.now (record c.index_mut.result.now { uses = c.push.new.self }) c.index_mut.ensures.value
    c.args.item (λ t. record c.index_mut.result.now { uses = c.in_ok-push.ensures.ok t }) x
