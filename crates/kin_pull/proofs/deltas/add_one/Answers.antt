use Rattle.std.proofs.Common.{◌∙◌, sym}
use Rattle.kin_pull.proofs.Plans.{more-there}
use Rattle.kin_pull.proofs.deltas.add_one.Goals as goal

pub returns-in_ok-count_up-clause-facts : goal.returns-in_ok-count_up-clause-facts
returns-in_ok-count_up-clause-facts c = λ x there. more-there c.args.users.now c.args.facts.now.items c.args.u c.in-Some.i c.requires.long
    (sym c.find.ensures.found ∙ c.in-Some.is) c.index_mut.result.now c.count_up.new.facts c.index_mut.ensures.value
    c.in_ok-count_up.ensures x
