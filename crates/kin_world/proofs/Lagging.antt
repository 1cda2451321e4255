-- The least number at which a test fails, from a search.
use Rattle.std.proofs.Common.{◌≡◌, ◌≢◌, ℕ, zero, suc, ◌+◌, ◌<◌, ◌≤◌, Bool, true, false, ⊎_elim, Some, sym, ◌∙◌, ap, subst, arith}
use Rattle.std.proofs.lemmas.Bool.{cond-true, cond-false, cases_eq}
use Rattle.kin_ids.specs.Lines.{first_without}

pub first-at : (from n : ℕ) (test : ℕ → Bool) (p : ℕ) → from ≤ p → p < from + n → test p ≡ false → ((q : ℕ) → from ≤ q → q < p → test q ≡ true) → first_without from n test ≡ Some p
first-at from zero test p ge lt fails before = absurd (omega arith)
first-at from (suc n) test p ge lt fails before = ⊎_elim
    (λ (e : from ≡ p). cond-false (test from) _ _ (subst (λ (k : ℕ). test k ≡ false) (sym e) fails) ∙ ap Some e)
    (λ (ne : from ≢ p). cond-true (test from) _ _ (before from (omega arith) (omega arith)) ∙ first-at (from + 1) n test p (omega arith) (omega arith) fails (λ q le less. before q (omega arith) less))
    (cases_eq from p)
