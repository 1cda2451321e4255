use Rattle.std.proofs.Common.{sym, subst, refl}
use Rattle.kin_ids.specs.Users.{tag_cmp}
use Rattle.kin_rules.specs.Results.{ResultView}
use Rattle.kin_rules.specs.Spots.{WouldStandAt}
use Rattle.kin_rules.proofs.ResultSets.{tag-moved, puts-tag, put-tabular}
use Rattle.kin_rules.proofs.results.EpochResult.add_tag.Goals as goal

pub invariant_of-self-2 : goal.invariant_of-self-2
invariant_of-self-2 c =
    let at = subst (λ (r : ResultView). WouldStandAt tag_cmp r.tags c.args.t c.args.at) (sym c.self.view_is) c.requires.spot in
    rw (c.put_at.ensures, c.put_at-2.ensures, c.put_at-3.ensures, c.in_ok-reserve.ensures.items, c.in_ok-reserve-2.ensures.items, c.in_ok-reserve-3.ensures.items, c.new.ensures)
    (put-tabular _ c.self.invariant c.args.t c.args.at c.args.n c.requires.some at)

pub returns-clause-set : goal.returns-clause-set
returns-clause-set c =
    let at = subst (λ (r : ResultView). WouldStandAt tag_cmp r.tags c.args.t c.args.at) (sym c.self.view_is) c.requires.spot in
    rw (c.put_at.ensures, c.put_at-2.ensures, c.put_at-3.ensures, c.in_ok-reserve.ensures.items, c.in_ok-reserve-2.ensures.items, c.in_ok-reserve-3.ensures.items, c.new.ensures)
    (tag-moved _ _ _ _ _ _ c.self.view_is refl (puts-tag _ c.self.invariant c.args.t c.args.at c.args.n c.requires.some at))
