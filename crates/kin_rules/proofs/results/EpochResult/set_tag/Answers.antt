use Rattle.std.proofs.Common.{◌<◌, sym, subst, refl, List, ℕ, arith}
use Rattle.kin_ids.specs.Users.{tag_cmp}
use Rattle.kin_rules.specs.Results.{ResultView}
use Rattle.kin_rules.specs.ResultChanges.{SetsTag}
use Rattle.kin_rules.specs.Spots.{StandsAt}
use Rattle.kin_rules.proofs.ResultSets.{tag-moved, sets-tag, keeps-none}
use Rattle.kin_rules.proofs.results.EpochResult.set_tag.Goals as goal

pub returns-else-n-eq0-clause-set : goal.returns-else-n-eq0-clause-set
returns-else-n-eq0-clause-set c =
    let at = subst (λ (ts : List (List ℕ)). StandsAt tag_cmp ts c.args.t c.in-Ok.at) c.deref.ensures.value c.in-Ok.ensures in
    let off = c.if-n-eq0.false in
    let some : 0 < c.args.n = omega (arith, off) in
    tag-moved _ _ _ _ _ _ c.self.view_is refl (sets-tag _ c.self.invariant c.args.t c.in-Ok.at c.args.n some at)

pub returns-then-n-eq0-2-clause-set : goal.returns-then-n-eq0-2-clause-set
returns-then-n-eq0-2-clause-set c =
    subst (λ (n : ℕ). SetsTag c.args.self.now c.args.t n c.args.self.now) (sym c.if-n-eq0-2.true)
    (subst (λ (r : ResultView). SetsTag r c.args.t 0 r) c.self.view_is (keeps-none _ c.self.invariant c.args.t 0 (rw c.deref.ensures.value at c.in-Err.ensures.none)))
