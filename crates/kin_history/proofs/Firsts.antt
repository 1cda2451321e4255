-- The least number at which a test fails.
use Rattle.std.proofs.Common.{◌≡◌, ◌≢◌, ℕ, zero, suc, ◌+◌, ◌<◌, ◌≤◌, Bool, true, false, cond, ⊎_elim, Some, None, refl, sym, ◌∙◌, subst, arith}
use Rattle.std.proofs.lemmas.Bool.{cond-true, cases_eq}
use Rattle.std.proofs.lemmas.Option.{none-some}
use Rattle.kin_ids.specs.Lines.{first_without}

-- the test fails at p and nowhere before it
pub record IsFirst (from n : ℕ) (test : ℕ → Bool) (p : ℕ) : Type 0 where
  pub ge : from ≤ p
  pub lt : p < from + n
  pub fails : test p ≡ false
  pub before : (q : ℕ) → from ≤ q → q < p → test q ≡ true

pub first-some : (from n : ℕ) (test : ℕ → Bool) (p : ℕ) → first_without from n test ≡ Some p → IsFirst from n test p
first-some from zero test p = λ e. absurd (none-some p e)
first-some from (suc n) test p = go (test from) refl (first-some (from + 1) n test p)
  where
    go : (b : Bool) → test from ≡ b → (first_without (from + 1) n test ≡ Some p → IsFirst (from + 1) n test p) → cond b (first_without (from + 1) n test) (Some from) ≡ Some p → IsFirst from (suc n) test p
    go true t ih e =
        let rest = ih e in
        let ge = rest.ge in
        let lt = rest.lt in
        record {
          ge = omega arith;
          lt = omega arith;
          fails = rest.fails;
          before = λ q le less. ⊎_elim (λ (same : from ≡ q). subst (λ (k : ℕ). test k ≡ true) same t) (λ (ne : from ≢ q). rest.before q (omega arith) less) (cases_eq from q);
        }
    go false t ih e = let same : from ≡ p = cc in record { ge = omega arith; lt = omega arith; fails = subst (λ (k : ℕ). test k ≡ false) same t; before = λ q le less. absurd (omega arith) }

pub first-none : (from n : ℕ) (test : ℕ → Bool) → first_without from n test ≡ None → (p : ℕ) → from ≤ p → p < from + n → test p ≡ true
first-none from zero test = λ e p le lt. absurd (omega arith)
first-none from (suc n) test = go (test from) refl (first-none (from + 1) n test)
  where
    go : (b : Bool) → test from ≡ b → (first_without (from + 1) n test ≡ None → (p : ℕ) → from + 1 ≤ p → p < from + 1 + n → test p ≡ true) → cond b (first_without (from + 1) n test) (Some from) ≡ None → (p : ℕ) → from ≤ p → p < from + suc n → test p ≡ true
    go true t ih e p le lt = ⊎_elim (λ (same : from ≡ p). subst (λ (k : ℕ). test k ≡ true) same t) (λ (ne : from ≢ p). ih e p (omega arith) (omega arith)) (cases_eq from p)
    go false t ih e p le lt = absurd (none-some from (sym e))

pub none-first : (from n : ℕ) (test : ℕ → Bool) → ((p : ℕ) → from ≤ p → p < from + n → test p ≡ true) → first_without from n test ≡ None
none-first from zero test all = refl
none-first from (suc n) test all = cond-true (test from) _ _ (all from (omega arith) (omega arith)) ∙ none-first (from + 1) n test (λ p le lt. all p (omega arith) (omega arith))
