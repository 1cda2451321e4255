use Rattle.std.proofs.Common.{◌≡◌, ◌∙◌, ◌||◌, ℕ, Bool, List, [], ◌∷◌, cond, true, false, ap, subst, sym}
use Rattle.std.specs.List.Sorted.{IsStrictlySortedBy}
use Rattle.kin_ids.proofs.Same.{same_tag-refl}
use Rattle.kin_rules.specs.Results.{AreExposures, ResultView, has_tag}
use Rattle.kin_rules.proofs.ScratchReads.{counted-ascend}
use Rattle.kin_rules.proofs.result_tests.tags_come_at_once_and_exposures_stay.Goals as goal

pub set_expo-requires-clause-in_use : goal.set_expo-requires-clause-in_use
set_expo-requires-clause-in_use g c =
    c.in_ok-set_tag.ensures.set.tags c.tag-go.result
    ∙ ap (λ (b : Bool). cond b true (has_tag c.in_ok-found.found.tags c.tag-go.result)) (same_tag-refl c.tag-go.result)

pub set_expo-requires-clause-list : goal.set_expo-requires-clause-list
set_expo-requires-clause-list g c = subst AreExposures (sym c.as_slice-in-loop-tag.ensures) (counted-ascend (0 ∷ 0 ∷ 3 ∷ []) 4)

pub tagged-requires-clause-ascend : goal.tagged-requires-clause-ascend
unfolding IsStrictlySortedBy
tagged-requires-clause-ascend g c = rw c.in_ok-tags.ensures.items (tt, tt)

-- a tag is in use where it is the only one
only-one : (t : List ℕ) (ts : List (List ℕ)) → ts ≡ t ∷ [] → has_tag ts t ≡ true
only-one t ts e = ap (λ (l : List (List ℕ)). has_tag l t) e ∙ ap (λ (b : Bool). b || false) (same_tag-refl t)

pub put_tag-requires-clause-in_use : goal.put_tag-requires-clause-in_use
put_tag-requires-clause-in_use g c =
    only-one _ c.retag.new.self.tags (ap (λ (r : ResultView). r.tags) c.retag.ensures ∙ c.in_ok-other.ensures.tags.0 ∙ c.in_ok-tags.ensures.items)
