use Rattle.std.proofs.Common.{subst, refl, List, ℕ}
use Rattle.kin_ids.specs.Users.{tag_cmp}
use Rattle.kin_rules.specs.Spots.{StandsAt}
use Rattle.kin_rules.proofs.ResultSets.{tag-moved, sets-tag}
use Rattle.kin_rules.proofs.results.EpochResult.put_tag.Goals as goal

pub returns : goal.returns
returns c =
    let at = subst (λ (ts : List (List ℕ)). StandsAt tag_cmp ts c.args.t c.in-Ok.at) c.deref.ensures.value c.in-Ok.ensures in
    tag-moved _ _ _ _ _ _ c.self.view_is refl (sets-tag _ c.self.invariant c.args.t c.in-Ok.at c.args.n c.requires.some at)
