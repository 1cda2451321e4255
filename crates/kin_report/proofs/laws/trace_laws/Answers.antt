use Rattle.std.proofs.Common.{◌≡◌, ℕ, List, ◌++◌, ◌∷◌, [], refl, sym, ap, ◌∙◌, append_assoc, codes}
use Rattle.std.specs.Fmt.{decimal}
use Rattle.kin_report.specs.TraceLaws.{TraceTexts}
use Rattle.kin_report.proofs.laws.trace_laws.Goals as goal

-- three words, parted otherwise
three : (a b c : List ℕ) → (a ++ 32 ∷ []) ++ ((b ++ 32 ∷ []) ++ c) ≡ (((a ++ 32 ∷ []) ++ b) ++ 32 ∷ []) ++ c
three a b c = sym (append_assoc (a ++ 32 ∷ []) (b ++ 32 ∷ []) c) ∙ ap (λ (t : List ℕ). t ++ c) (sym (append_assoc (a ++ 32 ∷ []) b (32 ∷ [])))

texts : TraceTexts
texts = record {
  stamped = λ s n. ap (λ (t : List ℕ). (codes "# " ++ decimal n ++ codes " " ++ (codes "stamped " ++ t)) ++ 10 ∷ []) (three (decimal s.inc.0) (decimal s.from) (decimal s.to));
  held = λ top n. refl;
  early = λ top n. refl;
  repeat = λ n. refl;
  stale = λ c n. refl;
  reported = λ n. refl;
  raised = λ at n. refl;
  level = λ at n. refl;
  cut_made = λ k n. refl;
  committed = λ k n. refl;
  begun = λ k n. refl;
  turned = λ n. refl;
  mined = λ k n. refl;
  crashed = λ n. refl;
  restarted = λ c base n. refl;
  down = λ n. refl;
  is_up = λ n. refl;
  exhausted = λ n. refl;
  not_sent = λ n. refl;
  not_reported = λ p n. refl;
  nothing_cut = λ n. refl;
  not_committed = λ p n. refl;
  not_begun = λ n. refl;
  busy = λ k n. refl;
  spent = λ n. refl;
}

pub returns : goal.returns
returns c = texts
