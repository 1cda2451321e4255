use Rattle.std.proofs.Common.{◌∙◌, Bool, [], ◌∷◌, cond, true, ap, subst, sym}
use Rattle.kin_ids.proofs.Same.{same_tag-refl}
use Rattle.kin_rules.specs.Results.{AreExposures, has_tag}
use Rattle.kin_rules.proofs.ScratchReads.{counted-ascend}
use Rattle.kin_rules.proofs.result_tests.exposures_of_a_tag_go_with_it.Goals as goal

pub set_expo-requires-clause-in_use : goal.set_expo-requires-clause-in_use
set_expo-requires-clause-in_use g c =
    c.in_ok-set_tag.ensures.set.tags c.tag-go.result
    ∙ ap (λ (b : Bool). cond b true (has_tag c.in_ok-found.found.tags c.tag-go.result)) (same_tag-refl c.tag-go.result)

pub set_expo-requires-clause-list : goal.set_expo-requires-clause-list
set_expo-requires-clause-list g c = subst AreExposures (sym c.as_slice.ensures) (counted-ascend (0 ∷ 0 ∷ 3 ∷ []) 4)
