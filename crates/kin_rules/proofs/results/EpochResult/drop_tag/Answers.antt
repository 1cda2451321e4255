use Rattle.std.proofs.Common.{sym, subst, refl}
use Rattle.kin_ids.specs.Users.{tag_cmp}
use Rattle.kin_rules.specs.Results.{ResultView}
use Rattle.kin_rules.specs.Spots.{StandsAt}
use Rattle.kin_rules.proofs.ResultSets.{tag-moved, drops-tag, dropped-tabular}
use Rattle.kin_rules.proofs.results.EpochResult.drop_tag.Goals as goal

pub invariant_of-self : goal.invariant_of-self
invariant_of-self c =
    let at = subst (λ (r : ResultView). StandsAt tag_cmp r.tags c.args.t c.args.at) (sym c.self.view_is) c.requires in
    rw (c.remove.ensures.items, c.remove-2.ensures.items, c.remove-3.ensures.items) (dropped-tabular _ c.self.invariant c.args.t c.args.at at)

pub returns : goal.returns
returns c =
    let at = subst (λ (r : ResultView). StandsAt tag_cmp r.tags c.args.t c.args.at) (sym c.self.view_is) c.requires in
    rw (c.remove.ensures.items, c.remove-2.ensures.items, c.remove-3.ensures.items) (tag-moved _ _ _ _ _ _ c.self.view_is refl (drops-tag _ c.self.invariant c.args.t c.args.at at))
