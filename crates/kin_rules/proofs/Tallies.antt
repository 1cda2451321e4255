-- Tallies of numbers: of one tag more, and that they ascend.
use Rattle.std.proofs.Common.{◌≡◌, ◌<◌, ◌+◌, ◌∙◌, ltb, ℕ, Bool, true, false, List, [], ◌∷◌, ◌++◌, length, get_or, All, arith, refl, sym, ap, subst}
use Rattle.std.proofs.lemmas.Bool.Decides.{nat_tests}
use Rattle.std.proofs.lemmas.List.{get_or_append_left, get_or_default, get_or_push, length_push}
use Rattle.kin_rules.specs.declared.exposure_rules.UseK.{UseK}
use Rattle.kin_rules.specs.declared.numbers.KCount.{KCount}
use Rattle.kin_rules.specs.Results.{AreExposures}
use Rattle.kin_rules.specs.ExposureLists.{AreTallies, IsTally, counted, ks_of}
use Rattle.kin_rules.specs.Scratches.{AreLists}
use Rattle.kin_rules.proofs.ScratchReads.{counted-ascend}

-- the first i tags have theirs
abbrev pub AreSome : List UseK → List (List ℕ) → List (List KCount) → ℕ → Type 0
AreSome es ts lists i = (length lists ≡ i) × ((j : ℕ) → j < i → IsTally (ks_of es (get_or ts j [])) (get_or lists j []))

pub some-more : (es : List UseK) (ts : List (List ℕ)) (lists : List (List KCount)) (new : List KCount) (i : ℕ) → IsTally (ks_of es (get_or ts i [])) new
    → AreSome es ts lists i → AreSome es ts (lists ++ new ∷ []) (i + 1)
some-more es ts lists new i one was = (length_push lists new ∙ ap (λ (n : ℕ). n + 1) was.0, λ j lt. here j lt (ltb j i) refl)
  where
    here : (j : ℕ) → j < i + 1 → (b : Bool) → ltb j i ≡ b → IsTally (ks_of es (get_or ts j [])) (get_or (lists ++ new ∷ []) j [])
    here j lt true e =
        let below : j < i = grind (arith, nat_tests, e) in
        subst (IsTally (ks_of es (get_or ts j []))) (sym (get_or_append_left lists (new ∷ []) [] j (subst (λ (m : ℕ). j < m) (sym was.0) below))) (was.1 j below)
    here j lt false e =
        let same : i ≡ j = grind (arith, nat_tests, e, lt) in
        subst (IsTally (ks_of es (get_or ts j []))) (sym (get_or_push lists new [] j (was.0 ∙ same))) (subst (λ (m : ℕ). IsTally (ks_of es (get_or ts m [])) new) same one)

-- where these are all tags
pub some-all : (es : List UseK) (ts : List (List ℕ)) (lists : List (List KCount)) (i : ℕ) → i ≡ length ts → AreSome es ts lists i → AreTallies es ts lists
some-all es ts lists i all some = record { long = some.0 ∙ all; each = λ j lt. some.1 j (subst (λ n. j < n) (sym all) lt) }

pub tally-ascends : (ks : List ℕ) (list : List KCount) → IsTally ks list → AreExposures list
tally-ascends ks list is = subst AreExposures (sym is.2) (counted-ascend ks is.0)

pub tallies-are-lists : (es : List UseK) (ts : List (List ℕ)) (lists : List (List KCount)) → AreTallies es ts lists → AreLists ts lists
tallies-are-lists es ts lists are = record {
  long = are.long;
  each = λ i d lt. let long = are.long in subst AreExposures (get_or_default lists i [] d lt) (tally-ascends (ks_of es (get_or ts i [])) (get_or lists i []) (are.each i (omega (arith, lt, long))));
}
