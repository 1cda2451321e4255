use Rattle.std.proofs.Common.{subst, List, ℕ}
use Rattle.kin_ids.specs.Users.{tag_cmp}
use Rattle.kin_rules.specs.Spots.{StandsAt}
use Rattle.kin_rules.proofs.ResultSets.{expo-moved, sets-expo}
use Rattle.kin_rules.proofs.results.EpochResult.set_expo.Goals as goal

pub returns-clause-set : goal.returns-clause-set
returns-clause-set c =
    let at = subst (λ (ts : List (List ℕ)). StandsAt tag_cmp ts c.args.t c.in-Ok.at) c.deref.ensures.value c.in-Ok.ensures in
    rw (c.of.ensures, c.in_ok-from_slice.ensures.items) (expo-moved _ _ _ _ _ c.self.view_is (sets-expo _ c.self.invariant c.args.t c.in-Ok.at c.args.list.now at))
