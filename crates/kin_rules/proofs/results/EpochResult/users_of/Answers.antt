use Rattle.std.proofs.Common.{sym, ap, ◌∙◌}
use Rattle.kin_rules.specs.Results.{ResultView, tag_users_in}
use Rattle.kin_rules.proofs.ResultReads.{tag-past}
use Rattle.kin_rules.proofs.results.EpochResult.users_of.Goals as goal

pub returns-in-Err : goal.returns-in-Err
returns-in-Err c =
    sym (tag-past c.self.inside.tags.items c.self.inside.tag_users.items c.args.t 0 c.self.invariant.tag_users (rw c.deref.ensures.value at c.in-Err.ensures.none))
    ∙ ap (λ (r : ResultView). tag_users_in r c.args.t) c.self.view_is
