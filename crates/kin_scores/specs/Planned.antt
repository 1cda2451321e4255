-- Turns and settles that are planned: what both rules compute, and the exposures that the entries then make.
use Rattle.std.specs.Prelude.{◌≡◌, ◌==◌, ℕ, false, List, [], Option, Some, None, length, slice_index_or, unwrap_or, if◌then◌else◌}
use Rattle.std.specs.List.{flat_map}
use Rattle.kin_ids.specs.declared.ids.User.{User}
use Rattle.kin_ids.specs.Parts.{PartView}
use Rattle.kin_rules.specs.declared.exposure_rules.UseK.{UseK}
use Rattle.kin_rules.specs.declared.numbers.KCount.{KCount}
use Rattle.kin_rules.specs.ExposureLists.{AreTallies}
use Rattle.kin_rules.specs.ExposureRule.{exposure_rule}
use Rattle.kin_rules.specs.Layers.{LayerRule}
use Rattle.kin_rules.specs.Places.{place}
use Rattle.kin_rules.specs.Scratches.{AreLists}
use Rattle.kin_pull.specs.Passes.{IsDraft, drafted_at}
use Rattle.kin_pull.specs.States.{IsQuiet, KeptView, is_active, row_in}
use Rattle.kin_pull.specs.TurnPlans.{IsTurnPlan, TurnPlanView, planned_value}
use Rattle.kin_scores.specs.declared.turns.ExposureTurn.{ExposureTurn}
use Rattle.kin_scores.specs.declared.settles.ExposureSettle.{ExposureSettle}

-- the row of each user's entries, where u has others
abbrev pub IsRowWith : List User → User → List UseK → List (List UseK) → List (List UseK) → Type 0
IsRowWith us u own old new = (length new ≡ length us)
    × ((p : ℕ) → slice_index_or new p [] ≡ (if p == place us u then own else slice_index_or old p []))

-- the row of each user's entries once a draft is taken over
abbrev pub IsRowAfter : List User → List (List (Option (List UseK))) → KeptView (List UseK) → List (List UseK) → Type 0
IsRowAfter us draft k new = (length new ≡ length us) × ((p : ℕ) → slice_index_or new p [] ≡ drafted_at draft k 1 p [])

-- the exposures of these tags by the entries of such a row
abbrev pub AreMadeBy : (List (List UseK) → Type 0) → List (List ℕ) → List (List KCount) → Type 0
AreMadeBy IsRow tags lists = (row : List (List UseK)) → IsRow row → AreTallies (flat_map (λ entries. entries) row) tags lists

-- a turn is planned of a user who is active, and none of others
abbrev pub IsPlanned : {V : Type 0} → LayerRule V → ℕ → PartView → List User → KeptView V → User → Option (TurnPlanView V) → Type 0
IsPlanned r top v us k u None = is_active us k u ≡ false
IsPlanned r top v us k u (Some plan) = IsTurnPlan r top v us k u plan

-- a turn by exposure, with the exposures that it makes
pub record IsExposureTurn (v : PartView) (us : List User) (tags : List (List ℕ)) (k : KeptView (List UseK)) (u : User) (turn : ExposureTurn) : Type 0 where
  pub plan : IsTurnPlan exposure_rule 1 v us k u turn.plan
  pub lists : AreLists tags turn.lists.items
  pub made : AreMadeBy (IsRowWith us u (unwrap_or (planned_value turn.plan 1) []) (row_in k 1)) tags turn.lists.items

abbrev pub IsExposurePlanned : PartView → List User → List (List ℕ) → KeptView (List UseK) → User → Option ExposureTurn → Type 0
IsExposurePlanned v us tags k u None = is_active us k u ≡ false
IsExposurePlanned v us tags k u (Some turn) = IsExposureTurn v us tags k u turn

-- a settle is planned where somebody is active, and none where nobody is
abbrev pub IsDrafted : {V : Type 0} → LayerRule V → ℕ → PartView → List User → KeptView V → Option (List (List (Option V))) → Type 0
IsDrafted r top v us k None = IsQuiet us k
IsDrafted r top v us k (Some draft) = (IsQuiet us k → ⊥) × IsDraft r v us k top draft

-- a settle by exposure, with the exposures that it makes
pub record IsExposureSettle (v : PartView) (us : List User) (tags : List (List ℕ)) (k : KeptView (List UseK)) (settle : ExposureSettle) : Type 0 where
  pub busy : IsQuiet us k → ⊥
  pub draft : IsDraft exposure_rule v us k 1 settle.plan
  pub lists : AreLists tags settle.lists.items
  pub made : AreMadeBy (IsRowAfter us settle.plan k) tags settle.lists.items

abbrev pub IsExposureDrafted : PartView → List User → List (List ℕ) → KeptView (List UseK) → Option ExposureSettle → Type 0
IsExposureDrafted v us tags k None = IsQuiet us k
IsExposureDrafted v us tags k (Some settle) = IsExposureSettle v us tags k settle
