-- Commits and mining after every history.
use Rattle.std.proofs.Common.{◌≡◌, ℕ, ◌+◌, ◌<◌, ◌≤◌, Bool, true, false, cond, eqb, leb, ltb, ◌&&◌, ◌||◌, ⊎_elim, List, [], ◌∷◌, Option, Some, None, refl, arith}
use Rattle.std.proofs.lemmas.Bool.{cond_both, false≢true, and_parts, or_cases, leb-true, ltb-true, ltb-false}
use Rattle.kin_script.specs.declared.events.Event.{Event}
use Rattle.kin_script.specs.declared.events.Event.TheVariants as event
use Rattle.kin_script.specs.declared.outcomes.Refusal.TheVariants as refusal
use Rattle.kin_history.specs.Setting.{Setting}
use Rattle.kin_history.specs.Vectors.{is_none, unreported_part, cuts, committed, uncommitted_part}
use Rattle.kin_history.specs.Mining.{not_committed, is_clear, held_back, mined, is_open}
use Rattle.kin_history.specs.MiningLaws.{IsMinedInOrder}
use Rattle.kin_history.proofs.Firsts.{first-none}

module _ (set : Setting) where
  -- an epoch that nothing holds back is cut, and committed by every partition
  pub record IsReady (h : List Event) (k : ℕ) : Type 0 where
    pub cut : k ≤ cuts set h
    pub each : (p : ℕ) → p < set.parts → k ≤ committed set h p

  pub ready : (h : List Event) (k : ℕ) → is_clear (held_back set h k) ≡ true → IsReady h k
  ready h k = go (ltb (cuts set h) k) refl (uncommitted_part set h k) refl
    where
      go : (b : Bool) → ltb (cuts set h) k ≡ b → (o : Option ℕ) → uncommitted_part set h k ≡ o → is_clear (cond b (Some refusal.NothingCut) (not_committed o)) ≡ true → IsReady h k
      go true e o none clear = absurd (false≢true clear)
      go false e (Some p) none clear = absurd (false≢true clear)
      go false e None none clear = let le : k ≤ cuts set h = ltb-false _ _ e in
          record { cut = le; each = λ p lt. leb-true _ _ (first-none 0 set.parts (λ q. leb k (committed set h q)) none p (omega arith) (omega arith)) }

  pub mined-order : (h : List Event) → IsMinedInOrder set h
  mined-order [] = record { within = λ p. omega arith; cut = omega arith; done = λ p lt. omega arith; begun_cut = λ e. absurd (false≢true e); begun = λ p lt e. absurd (false≢true e) }
  mined-order (event.Cut n ∷ h) =
      let m = mined-order h in
      let more : cuts set h ≤ cuts set (event.Cut n ∷ h) = cond_both (is_none (unreported_part set h)) (cuts set h + 1) (cuts set h) (λ (k : ℕ). cuts set h ≤ k) (λ _. omega arith) (λ _. omega arith) in
      let cut = m.cut in
      record { within = λ p. let w = m.within p in omega arith; cut = omega arith; done = m.done; begun_cut = λ e. let b = m.begun_cut e in omega arith; begun = m.begun }
  mined-order (event.Commit q ∷ h) =
      let m = mined-order h in
      let more : (p : ℕ) → committed set h p ≤ committed set (event.Commit q ∷ h) p = λ p. cond_both (eqb q.0 p && ltb (committed set h p) (cuts set h)) (committed set h p + 1) (committed set h p) (λ (k : ℕ). committed set h p ≤ k) (λ _. omega arith) (λ _. omega arith) in
      record {
        within = λ p. let w = m.within p in cond_both (eqb q.0 p && ltb (committed set h p) (cuts set h)) (committed set h p + 1) (committed set h p) (λ (k : ℕ). k ≤ cuts set h)
            (λ t. let lt : committed set h p < cuts set h = ltb-true (committed set h p) (cuts set h) (and_parts (eqb q.0 p) _ t).1 in omega arith) (λ _. w);
        cut = m.cut;
        done = λ p lt. let a = m.done p lt in let b = more p in omega arith;
        begun_cut = m.begun_cut;
        begun = λ p lt e. let a = m.begun p lt e in let b = more p in omega arith;
      }
  mined-order (event.Begin ∷ h) =
      let m = mined-order h in
      let begun : is_open set (event.Begin ∷ h) ≡ true → IsReady h (mined set h + 1) = λ e. ⊎_elim
      (λ (was : is_open set h ≡ true). record { cut = m.begun_cut was; each = λ p lt. m.begun p lt was }) (ready h (mined set h + 1)) (or_cases _ _ e) in
      record { within = m.within; cut = m.cut; done = m.done; begun_cut = λ e. (begun e).cut; begun = λ p lt e. (begun e).each p lt }
  mined-order (event.Mine ∷ h) =
      let m = mined-order h in
      let test = is_open set h || is_clear (held_back set h (mined set h + 1)) in
      let begun : test ≡ true → IsReady h (mined set h + 1) = λ e. ⊎_elim
      (λ (was : is_open set h ≡ true). record { cut = m.begun_cut was; each = λ p lt. m.begun p lt was }) (ready h (mined set h + 1)) (or_cases _ _ e) in
      record {
        within = m.within;
        cut = cond_both test (mined set h + 1) (mined set h) (λ (k : ℕ). k ≤ cuts set h) (λ t. (begun t).cut) (λ _. m.cut);
        done = λ p lt. cond_both test (mined set h + 1) (mined set h) (λ (k : ℕ). k ≤ committed set h p) (λ t. (begun t).each p lt) (λ _. m.done p lt);
        begun_cut = λ e. absurd (false≢true e);
        begun = λ p lt e. absurd (false≢true e);
      }
  mined-order (_ ∷ h) = let m = mined-order h in record { within = m.within; cut = m.cut; done = m.done; begun_cut = m.begun_cut; begun = m.begun }
