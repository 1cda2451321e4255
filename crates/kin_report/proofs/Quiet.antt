-- Events that print no block, and what the parts of a run print.
use Rattle.std.proofs.Common.{◌≡◌, ℕ, ◌+◌, Bool, true, false, not, eqb, List, [], ◌∷◌, ◌++◌, Option, Some, None, refl, sym, ◌∙◌, ap, append_assoc, nat_lt}
use Rattle.std.proofs.lemmas.Bool.{cond_both}
use Rattle.kin_ids.specs.declared.stamps.Stamp.{Stamp}
use Rattle.kin_ids.specs.Lines.{has, find_stamp}
use Rattle.kin_script.specs.declared.events.Event.{Event}
use Rattle.kin_script.specs.declared.events.Event.TheVariants as event
use Rattle.kin_script.specs.declared.outcomes.Outcome.{Outcome}
use Rattle.kin_script.specs.declared.outcomes.Refusal.{Refusal}
use Rattle.kin_history.specs.Setting.{Setting, after, feed_len}
use Rattle.kin_history.specs.Lines.{up, inc, next, sent, delivered, agreed, least_ack, seen, top}
use Rattle.kin_history.specs.Vectors.{unreported_part, cuts, committed}
use Rattle.kin_history.specs.Mining.{held_back, mined, is_open}
use Rattle.kin_history.specs.Outcomes.{outcome_of, delivery, cut_answer, begin_answer}
use Rattle.kin_report.specs.Report.{Ran, events_of, traced, mined_block, printed}

-- only the completion of mining prints a block
abbrev pub is_quiet : Event → Bool
is_quiet event.Mine = false
is_quiet _ = true

module _ (block_of : ℕ → List ℕ) where
  abbrev IsNothing : Outcome → Type 0
  IsNothing o = mined_block block_of o ≡ []

  cut-quiet : (k : ℕ) (o : Option ℕ) → IsNothing (cut_answer k o)
  cut-quiet k None = refl
  cut-quiet k (Some p) = refl

  begin-quiet : (k : ℕ) (o : Option Refusal) → IsNothing (begin_answer k o)
  begin-quiet k None = refl
  begin-quiet k (Some r) = refl

  delivery-quiet : (set : Setting) (h : List Event) (e : Event) (p j : ℕ) (o : Option Stamp) → IsNothing (delivery set h e p j o)
  delivery-quiet set h e p j None = refl
  delivery-quiet set h e p j (Some s) =
      cond_both (nat_lt s.inc.0 (seen set h p j)) _ _ IsNothing (λ _. refl)
      (λ _. cond_both (has (delivered set h p) s) _ _ IsNothing (λ _. refl)
      (λ _. cond_both (nat_lt (top set (e ∷ h) p j) s.to) _ _ IsNothing (λ _. refl) (λ _. refl)))

  pub quiet-outcome : (set : Setting) (h : List Event) (e : Event) → is_quiet e ≡ true → mined_block block_of (outcome_of set h e) ≡ []
  quiet-outcome set h (event.Stamp j n) q =
      cond_both (not (up set h j.0)) _ _ IsNothing (λ _. refl) (λ _. cond_both (eqb (next set h j.0) (feed_len set j.0)) _ _ IsNothing (λ _. refl) (λ _. refl))
  quiet-outcome set h (event.Deliver p j c to) q = delivery-quiet set h (event.Deliver p j c to) p.0 j.0 (find_stamp (sent set h) j.0 c.0 to)
  quiet-outcome set h (event.Report p) q = refl
  quiet-outcome set h (event.Raise j) q = cond_both (nat_lt (agreed set h j.0) (least_ack set h j.0)) _ _ IsNothing (λ _. refl) (λ _. refl)
  quiet-outcome set h (event.Cut n) q = cut-quiet (cuts set h + 1) (unreported_part set h)
  quiet-outcome set h (event.Commit p) q = cond_both (nat_lt (committed set h p.0) (cuts set h)) _ _ IsNothing (λ _. refl) (λ _. refl)
  quiet-outcome set h event.Begin q = cond_both (is_open set h) _ _ IsNothing (λ _. refl) (λ _. begin-quiet (mined set h + 1) (held_back set h (mined set h + 1)))
  quiet-outcome set h (event.Turn u) q = cond_both (is_open set h) _ _ IsNothing (λ _. refl) (λ _. refl)
  quiet-outcome set h event.Mine q = absurd cc
  quiet-outcome set h (event.Crash j) q = cond_both (not (up set h j.0)) _ _ IsNothing (λ _. refl) (λ _. refl)
  quiet-outcome set h (event.Restart j) q =
      cond_both (up set h j.0) _ _ IsNothing (λ _. refl) (λ _. cond_both (nat_lt (inc set h j.0) 65535) _ _ IsNothing (λ _. refl) (λ _. refl))

  abbrev pub AreQuiet : List Ran → Type 0
  AreQuiet [] = Unit {0}
  AreQuiet (r ∷ rs) = (is_quiet r.event ≡ true) × AreQuiet rs

  untraced : (number : Option ℕ) (o : Outcome) → traced false number o ≡ []
  untraced None o = refl
  untraced (Some n) o = refl

  -- without a trace, events that complete no mining print nothing
  pub quiet-printed : (set : Setting) (h : List Event) (run : List Ran) → AreQuiet run → printed set false block_of h run ≡ []
  quiet-printed set h [] q = refl
  quiet-printed set h (r ∷ rs) q = rw (untraced r.number (outcome_of set h r.event), quiet-outcome set h r.event q.0) (quiet-printed set (r.event ∷ h) rs q.1)

  pub printed-append : (set : Setting) (trace : Bool) (h : List Event) (xs ys : List Ran) →
      printed set trace block_of h (xs ++ ys) ≡ printed set trace block_of h xs ++ printed set trace block_of (after h (events_of xs)) ys
  printed-append set trace h [] ys = refl
  printed-append set trace h (r ∷ rs) ys =
      ap (λ (t : List ℕ). (traced trace r.number (outcome_of set h r.event) ++ mined_block block_of (outcome_of set h r.event)) ++ t) (printed-append set trace (r.event ∷ h) rs ys)
      ∙ sym (append_assoc (traced trace r.number (outcome_of set h r.event) ++ mined_block block_of (outcome_of set h r.event)) (printed set trace block_of (r.event ∷ h) rs) (printed set trace block_of (after (r.event ∷ h) (events_of rs)) ys))

pub events_of-append : (xs ys : List Ran) → events_of (xs ++ ys) ≡ events_of xs ++ events_of ys
events_of-append [] ys = refl
events_of-append (r ∷ rs) ys = ap (λ (es : List Event). r.event ∷ es) (events_of-append rs ys)
