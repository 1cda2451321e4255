-- A settle, where it is planned and where nobody is active.
use Rattle.std.proofs.Common.{◌≡◌, ◌≤◌, ℕ, List, Option, None, Some, Result, Ok, refl, subst}
use Rattle.std.specs.Prelude.{IfSome}
use Rattle.kin_ids.specs.declared.ids.User.{User}
use Rattle.kin_ids.specs.Parts.{PartView}
use Rattle.kin_rules.specs.Layers.{IsLayerRule, LayerRule}
use Rattle.kin_pull.specs.Passes.{IsDraft}
use Rattle.kin_pull.specs.Keeping.{layer_in}
use Rattle.kin_pull.specs.States.{IsQuiet, KeptView, On, net_in, value_in}
use Rattle.kin_pull.proofs.Epochs.{quiet-law}
use Rattle.kin_scores.specs.Planned.{IsDrafted}
use Rattle.kin_scores.specs.Turns.{IsSettledBy}

pub settled-idle : {V : Type 0} (r : LayerRule V) (top : ℕ) (v : PartView) (us : List User) (k : KeptView V) → IsLayerRule r → On r top v us k → IsQuiet us k → IsSettledBy r top v us k k
settled-idle {V} r top v us k laws on quiet = record {
  layers = λ j x le. quiet-law V r top v us k laws on quiet j x le;
  quiet = quiet;
  idle = λ q. refl;
}

pub settled-some : {V : Type 0} (r : LayerRule V) (top : ℕ) (v : PartView) (us vs : List User) (old new : KeptView V) → us ≡ vs
    → ((j : ℕ) (x : User) → j ≤ top → value_in r.first us new j x ≡ layer_in r (net_in r.side v us old) j x) → IsQuiet us new → (IsQuiet vs old → ⊥) → IsSettledBy r top v vs old new
settled-some {V} r top v us vs old new same layers quiet busy = record {
  layers = subst (λ (xs : List User). (j : ℕ) (x : User) → j ≤ top → value_in r.first xs new j x ≡ layer_in r (net_in r.side v xs old) j x) same layers;
  quiet = subst (λ (xs : List User). IsQuiet xs new) same quiet;
  idle = λ q. absurd (busy q);
}

abbrev pub answered : {X E : Type 0} → X → Result X E
answered x = Ok x

pub drafted-is : {V E : Type 0} {P : Type 0} (r : LayerRule V) (top : ℕ) (v : PartView) (us : List User) (k : KeptView V) (o : Option (List (List (Option V))))
    → (o ≡ None → IsQuiet us k) → (IsQuiet us k → P × (answered {E = E} o ≡ Ok None)) → IfSome o (IsDraft r v us k top) → IsDrafted r top v us k o
drafted-is r top v us k None none idle draft = none refl
drafted-is r top v us k (Some d) none idle draft = (λ q. (let e = (idle q).1 in absurd cc), draft)
