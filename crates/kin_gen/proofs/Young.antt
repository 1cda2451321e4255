-- Incarnations grow in every 256th round alone.
use Rattle.std.proofs.Common.{ℕ, zero, suc, ◌≡◌, ◌+◌, ◌*◌, ◌%◌, ◌<◌, Bool, true, false, List, [], ◌∷◌, get_or, set, refl, sym, subst, ◌∙◌, arith}
use Rattle.std.specs.Prelude.{◌==◌, if◌then◌else◌}
use Rattle.std.proofs.lemmas.Bool.Decides.{nat_tests}
use Rattle.kin_gen.specs.declared.rounds.Standing.{Standing}
use Rattle.kin_gen.specs.Rounds.{AreYoung, has_left, nodes, after_turn, after_turns, with_restart, restarted, after_round, opening}

-- of two standings with the same incarnations one is taken
chosen : (b : Bool) (x y : Standing) → x.incs ≡ y.incs → (if b then x else y).incs ≡ y.incs
chosen true x y e = e
chosen false x y e = refl

pub incs-turn : (n : ℕ) (at : Standing) (i : ℕ) → (after_turn n at i).incs ≡ at.incs
unfolding after_turn
incs-turn n at i = chosen (has_left n at i) _ at refl

pub incs-turns : (n : ℕ) (at : Standing) (is : List ℕ) → (after_turns n at is).incs ≡ at.incs
incs-turns n at [] = refl
incs-turns n at (i ∷ is) = incs-turns n (after_turn n at i) is ∙ incs-turn n at i

-- one incarnation grows in a round whose number is a multiple of 256
grown : (number : ℕ) (incs : List ℕ) (k : ℕ) → ((i : ℕ) → get_or incs i 0 * 256 < number) → number % 256 ≡ 0 → (i : ℕ) → get_or (set incs k (get_or incs k 0 + 1)) i 0 * 256 < number + 1
grown number [] k h e i = omega arith
grown number (x ∷ xs) zero h e zero = let here : x * 256 < number = h zero in omega arith
grown number (x ∷ xs) zero h e (suc i) = let there : get_or xs i 0 * 256 < number = h (suc i) in omega arith
grown number (x ∷ xs) (suc k) h e zero = let here : x * 256 < number = h zero in omega arith
grown number (x ∷ xs) (suc k) h e (suc i) = grown number xs k (λ j. h (suc j)) e i

young-choice : (b : Bool) (number : ℕ) (at : Standing) (k : ℕ) → AreYoung number at → (number % 256 == 0) ≡ b → AreYoung (number + 1) (if b then with_restart k at else at)
young-choice true number at k h e = grown number at.incs k h (grind (arith, nat_tests))
young-choice false number at k h e = λ i. let here : get_or at.incs i 0 * 256 < number = h i in omega arith

pub young-turns : (n number : ℕ) (at : Standing) → AreYoung number at → AreYoung number (after_turns n at nodes)
young-turns n number at h = subst (λ (incs : List ℕ). (i : ℕ) → get_or incs i 0 * 256 < number) (sym (incs-turns n at nodes)) h

-- what holds before a round holds before the next one
pub young-next : (n number : ℕ) (at : Standing) → AreYoung number at → AreYoung (number + 1) (after_round n number at)
unfolding after_round
young-next n number at h = young-choice (number % 256 == 0) number (after_turns n at nodes) (restarted number) (young-turns n number at h) refl

pub young-opening : (seed : ℕ) → AreYoung 1 (opening seed)
young-opening seed zero = omega arith
young-opening seed (suc zero) = omega arith
young-opening seed (suc (suc zero)) = omega arith
young-opening seed (suc (suc (suc i))) = omega arith
