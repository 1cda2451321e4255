use Rattle.std.proofs.Common.{sym, ap, ◌∙◌, List, []}
use Rattle.kin_rules.specs.declared.numbers.KCount.{KCount}
use Rattle.kin_rules.specs.Results.{ResultView, expo_in}
use Rattle.kin_rules.proofs.ResultReads.{tag-past, no-exposures}
use Rattle.kin_rules.proofs.results.EpochResult.expo_of.Goals as goal

pub returns-in-Err-clause-list : goal.returns-in-Err-clause-list
returns-in-Err-clause-list c =
    sym (tag-past {V = List KCount} c.self.inside.tags.items c.self.inside.expos.items c.args.t [] c.self.invariant.expos (rw c.deref.ensures.value at c.in-Err.ensures.none))
    ∙ ap (λ (r : ResultView). expo_in r c.args.t) c.self.view_is

pub returns-in-Err-clause-ascend : goal.returns-in-Err-clause-ascend
returns-in-Err-clause-ascend c = no-exposures
