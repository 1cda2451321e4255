use Rattle.std.proofs.Common.{◌∙◌, ap, nat_lt, List, ℕ}
use Rattle.kin_rules.specs.Results.{ResultView, has_tag, tag_users_in}
use Rattle.kin_rules.proofs.ResultReads.{tag-in-use}
use Rattle.kin_rules.proofs.results.EpochResult.tags.Goals as goal

pub returns-clause-in_use : goal.returns-clause-in_use
returns-clause-in_use c = λ t.
    ap (λ (ts : List (List ℕ)). has_tag ts t) c.as_slice.ensures.value
    ∙ tag-in-use c.self.inside.tags.items c.self.inside.tag_users.items t c.self.invariant.tag_users c.self.invariant.in_use
    ∙ ap (λ (r : ResultView). nat_lt 0 (tag_users_in r t)) c.self.view_is
