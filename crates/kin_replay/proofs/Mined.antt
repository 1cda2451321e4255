-- What the answer that an epoch was mined tells of a history.
use Rattle.std.proofs.Common.{◌≡◌, ℕ, ◌+◌, ◌<◌, ◌≤◌, ◌||◌, cond, Bool, true, false, List, [], ◌∷◌, Option, Some, None, refl, sym, ap, ◌∙◌, arith}
use Rattle.kin_ids.specs.declared.ids.Epoch.{Epoch}
use Rattle.kin_script.specs.declared.events.Event.{Event}
use Rattle.kin_script.specs.declared.events.Event.TheVariants as event
use Rattle.kin_script.specs.declared.outcomes.Outcome.{Outcome}
use Rattle.kin_script.specs.declared.outcomes.Outcome.TheVariants as outcome
use Rattle.kin_script.specs.declared.outcomes.Refusal.{Refusal}
use Rattle.kin_history.specs.Setting.{Setting}
use Rattle.kin_history.specs.Vectors.{cuts}
use Rattle.kin_history.specs.Mining.{mined, is_open, held_back, is_clear}
use Rattle.kin_history.specs.Outcomes.{outcome_of, mine_answer}
use Rattle.kin_history.proofs.Mined.{mined-order}
use Rattle.kin_report.specs.Report.{mined_block}
use Rattle.kin_report.proofs.Quiet.{is_quiet, quiet-outcome}
use Rattle.kin_world.specs.Stands.{last_begun}

-- the epoch that was begun last was mined, is cut, and none is open
pub record IsMinedNow (set : Setting) (h : List Event) (k : ℕ) : Type 0 where
  pub begun : last_begun set h ≡ k
  pub some : 0 < k
  pub cut : k ≤ cuts set h
  pub closed : is_open set h ≡ false

abbrev epoch_in : Outcome → ℕ
epoch_in (outcome.Mined k) = k.0
epoch_in _ = 0

mine-is : (m : ℕ) (t : Bool) (r : Option Refusal) (k : Epoch) → cond t (outcome.Mined (record { 0 = m + 1 })) (mine_answer (m + 1) r) ≡ outcome.Mined k → (k.0 ≡ m + 1) × (cond (t || is_clear r) (m + 1) m ≡ m + 1)
mine-is m true r k e = (sym (ap epoch_in e), refl)
mine-is m false None k e = (sym (ap epoch_in e), refl)
mine-is m false (Some r) k e = absurd cc

module _ (set : Setting) (h : List Event) where
  mined-by-mine : (k : Epoch) → outcome_of set h event.Mine ≡ outcome.Mined k → IsMinedNow set (event.Mine ∷ h) k.0
  mined-by-mine k e =
      let both = mine-is (mined set h) (is_open set h) (held_back set h (mined set h + 1)) k e in
      let order = mined-order set (event.Mine ∷ h) in
      record {
        begun = both.1 ∙ sym both.0;
        some = let n = both.0 in omega (arith, n);
        cut = let n = both.0 in let m = both.1 in let c = order.cut in omega (arith, n, m, c);
        closed = refl;
      }

  quiet-mines-none : (e : Event) (k : Epoch) → is_quiet e ≡ true → outcome_of set h e ≡ outcome.Mined k → ⊥
  quiet-mines-none e k quiet is =
      let none = quiet-outcome (λ n. 0 ∷ []) set h e quiet in
      let some : mined_block (λ n. 0 ∷ []) (outcome_of set h e) ≡ 0 ∷ [] = ap (mined_block (λ n. 0 ∷ [])) is in
      let bad : 0 ∷ [] ≡ [] = sym some ∙ none in
      absurd cc

  pub mined-now : (e : Event) (k : Epoch) → outcome_of set h e ≡ outcome.Mined k → IsMinedNow set (e ∷ h) k.0
  mined-now (event.Stamp i n) k is = absurd (quiet-mines-none (event.Stamp i n) k refl is)
  mined-now (event.Deliver p i c to) k is = absurd (quiet-mines-none (event.Deliver p i c to) k refl is)
  mined-now (event.Report p) k is = absurd (quiet-mines-none (event.Report p) k refl is)
  mined-now (event.Raise i) k is = absurd (quiet-mines-none (event.Raise i) k refl is)
  mined-now (event.Cut n) k is = absurd (quiet-mines-none (event.Cut n) k refl is)
  mined-now (event.Commit p) k is = absurd (quiet-mines-none (event.Commit p) k refl is)
  mined-now event.Begin k is = absurd (quiet-mines-none event.Begin k refl is)
  mined-now (event.Turn u) k is = absurd (quiet-mines-none (event.Turn u) k refl is)
  mined-now event.Mine k is = mined-by-mine k is
  mined-now (event.Crash i) k is = absurd (quiet-mines-none (event.Crash i) k refl is)
  mined-now (event.Restart i) k is = absurd (quiet-mines-none (event.Restart i) k refl is)
