-- How often a stamp stands among pieces, and where they begin.
use Rattle.std.proofs.Common.{◌≡◌, ◌≢◌, ℕ, ◌+◌, ◌<◌, ◌≤◌, true, false, cond, eqb, ◌||◌, ⊎_elim, List, [], ◌∷◌, ◌++◌, refl, sym, ◌∙◌, ap, subst, arith, add_assoc, zero-add}
use Rattle.std.specs.Prelude.{sum_by, IsPermutation}
use Rattle.std.proofs.lemmas.Bool.{cond_both, cond-true, cond-false, false≢true, or_cases, or_left, or_right, eqb-true, eq-eqb, cases_lt, both_ways}
use Rattle.std.proofs.lemmas.List.Sorted.{sum_by-IsPermutation}
use Rattle.std.proofs.lemmas.List.Recursion.{is_count_by}
use Rattle.kin_ids.specs.declared.ops.Piece.{Piece}
use Rattle.kin_ids.specs.declared.stamps.Stamp.{Stamp}
use Rattle.kin_ids.specs.Lines.{same_stamp, has, has_piece, stamps_of}
use Rattle.kin_ids.proofs.Lines.{same_from_test, same_stamp-refl}
use Rattle.kin_held.specs.Early.{begins}
use Rattle.kin_held.specs.ChainOf.{times}

pub has_piece-stamps : (ps : List Piece) (s : Stamp) → has_piece ps s ≡ has (stamps_of ps) s
has_piece-stamps [] s = refl
has_piece-stamps (p ∷ ps) s = ap (λ b. same_stamp p.stamp s || b) (has_piece-stamps ps s)

pub times-cons : (p : Piece) (ps : List Piece) (s : Stamp) → times (p ∷ ps) s ≡ cond (same_stamp p.stamp s) 1 0 + times ps s
times-cons p ps s = refl

pub times-append : (ps qs : List Piece) (s : Stamp) → times (ps ++ qs) s ≡ times ps s + times qs s
times-append [] qs s = sym (zero-add (times qs s))
times-append (p ∷ ps) qs s = ap (λ n. cond (same_stamp p.stamp s) 1 0 + n) (times-append ps qs s) ∙ sym (add_assoc (cond (same_stamp p.stamp s) 1 0) (times ps s) (times qs s))

times-step : (p : Piece) (ps : List Piece) (s : Stamp) → times (p ∷ ps) s ≡ cond (same_stamp p.stamp s) (1 + times ps s) (times ps s)
times-step p ps s = cond_both (same_stamp p.stamp s) 1 0 (λ n. n + times ps s ≡ cond (same_stamp p.stamp s) (1 + times ps s) (times ps s))
    (λ e. sym (cond-true (same_stamp p.stamp s) (1 + times ps s) (times ps s) e))
    (λ e. zero-add (times ps s) ∙ sym (cond-false (same_stamp p.stamp s) (1 + times ps s) (times ps s) e))

times-counts : (ps : List Piece) (s : Stamp) → times ps s ≡ sum_by (λ (p : Piece). cond (same_stamp p.stamp s) 1 0) ps
times-counts ps s = is_count_by (λ qs. times qs s) (λ (p : Piece). same_stamp p.stamp s) refl (λ p qs. times-step p qs s) ps

pub times-permutation : (ps qs : List Piece) (s : Stamp) → IsPermutation ps qs → times qs s ≡ times ps s
times-permutation ps qs s h = times-counts qs s ∙ (sum_by-IsPermutation (λ (p : Piece). cond (same_stamp p.stamp s) 1 0) ps qs h ∙ sym (times-counts ps s))

-- a stamp stands among those of the pieces exactly where some piece has it
pub has-times : (ps : List Piece) (s : Stamp) → has (stamps_of ps) s ≡ true → 1 ≤ times ps s
has-times [] s h = absurd (false≢true h)
has-times (p ∷ ps) s h =
    ⊎_elim (λ (e : same_stamp p.stamp s ≡ true). let one : cond {A = ℕ} (same_stamp p.stamp s) 1 0 ≡ 1 = cond-true (same_stamp p.stamp s) 1 0 e in omega (arith, one, times-cons p ps s))
    (λ (r : has (stamps_of ps) s ≡ true). let ih = has-times ps s r in omega (arith, times-cons p ps s))
    (or_cases (same_stamp p.stamp s) (has (stamps_of ps) s) h)

pub times-has : (ps : List Piece) (s : Stamp) → 1 ≤ times ps s → has (stamps_of ps) s ≡ true
times-has [] s = λ h. absurd (omega arith)
times-has (p ∷ ps) s = cond_both (same_stamp p.stamp s) 1 0 (λ n. 1 ≤ n + times ps s → has (stamps_of (p ∷ ps)) s ≡ true)
    (λ e _. or_left _ _ e) (λ _ h. or_right _ _ (times-has ps s (omega arith)))

pub times_none : (ps : List Piece) (s : Stamp) → has (stamps_of ps) s ≡ false → times ps s ≡ 0
times_none ps s n = ⊎_elim (λ (lt : 0 < times ps s). absurd (both_ways _ n (times-has ps s (omega arith)))) (λ (le : times ps s ≤ 0). omega arith) (cases_lt 0 (times ps s))

-- some piece begins there
pub begins-has : (at : ℕ) (ps : List Piece) → begins at ps ≡ true → (s : Stamp) × (has (stamps_of ps) s ≡ true) × (s.from ≡ at)
begins-has at [] h = absurd (false≢true h)
begins-has at (p ∷ ps) h =
    ⊎_elim (λ (e : eqb p.stamp.from at ≡ true). (p.stamp, or_left _ _ (same_stamp-refl p.stamp), eqb-true _ _ e))
    (λ (r : begins at ps ≡ true). let ih = begins-has at ps r in (ih.0, or_right _ _ ih.1, ih.2))
    (or_cases (eqb p.stamp.from at) (begins at ps) h)

pub has-begins : (ps : List Piece) (s : Stamp) → has (stamps_of ps) s ≡ true → begins s.from ps ≡ true
has-begins [] s h = absurd (false≢true h)
has-begins (p ∷ ps) s h =
    ⊎_elim (λ (e : same_stamp p.stamp s ≡ true). or_left _ _ (eq-eqb _ _ (ap (λ (x : Stamp). x.from) (same_from_test p.stamp s e))))
    (λ (r : has (stamps_of ps) s ≡ true). or_right _ _ (has-begins ps s r))
    (or_cases (same_stamp p.stamp s) (has (stamps_of ps) s) h)

-- none begins there
pub none_begins : (at : ℕ) (ps : List Piece) (s : Stamp) → begins at ps ≡ false → has (stamps_of ps) s ≡ true → s.from ≢ at
none_begins at ps s none h e = both_ways _ none (subst (λ (n : ℕ). begins n ps ≡ true) e (has-begins ps s h))
