use Rattle.std.proofs.Common.{◌∙◌, sym}
use Rattle.kin_pull.proofs.Plans.{fewer-there}
use Rattle.kin_pull.proofs.deltas.drop_one.Goals as goal

pub returns-in-Some-clause-facts : goal.returns-in-Some-clause-facts
returns-in-Some-clause-facts c = λ x there. fewer-there c.args.users.now c.args.facts.now.items c.args.u c.in-Some.i c.requires.long
    (sym c.find.ensures.found ∙ c.in-Some.is) c.index_mut.result.now c.count_down.new.facts c.index_mut.ensures.value c.count_down.ensures x
