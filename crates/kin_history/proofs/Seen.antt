-- What partitions have seen of a node after every history.
use Rattle.std.proofs.Common.{◌≡◌, ℕ, ◌+◌, ◌<◌, ◌≤◌, true, eqb, ⊎_elim, List, [], ◌∷◌, sym, ◌∙◌, ap, subst, arith, get_or}
use Rattle.std.proofs.lemmas.Bool.{cond_both, and_parts, or_cases, eqb-true, cases_lt, false_from_ne_true}
use Rattle.std.proofs.lemmas.List.Folds.{list_any-append}
use Rattle.kin_ids.specs.declared.stamps.Stamp.{Stamp}
use Rattle.kin_ids.specs.Lines.{end_of, same_stamp, has, front_in, upto, made_by, seen_in, ack_of}
use Rattle.kin_ids.proofs.Lines.{end_of-append, front-has, front-upto, least-le, least-ge, has-made, upto-end, upto-has, front_in-append, front_in-none, seen-ge, seen-le, seen-mono}
use Rattle.kin_script.specs.declared.events.Event.{Event}
use Rattle.kin_script.specs.declared.events.Event.TheVariants as event
use Rattle.kin_history.specs.Setting.{Setting, IsHistory}
use Rattle.kin_history.specs.Lines.{inc, line, sent, delivered, reported, base, ack, least_ack, seen, agreed}
use Rattle.kin_history.proofs.Made.{Stays, Back, restarts, delivered-sent, reported-delivered, reported-sent}
use Rattle.kin_history.proofs.Sound.{IsSound, old_base, new_base, sound}

module _ (set : Setting) where
  -- the least acknowledged position is never below the agreed one
  pub agreed-least : (h : List Event) (i : ℕ) → 0 < set.parts → IsSound set h i → agreed set h i ≤ least_ack set h i
  agreed-least h i some g = least-ge (ack set h 0 i) set.parts (λ p. ack set h p i) (agreed set h i) (g.acks 0 some) g.acks

  -- what is agreed was reported by every partition
  pub agreed-reported : (h : List Event) (i p : ℕ) (s : Stamp) → IsSound set h i → p < set.parts → has (line set h i) s ≡ true → s.to ≤ agreed set h i → has (reported set h p) s ≡ true
  agreed-reported h i p s g lt k le = let a = g.acks p lt in (front-has (reported set h p) (line set h i) s (front-upto (reported set h p) 0 (line set h i) s g.run k (omega arith))).1

  -- past its last base a line has the last incarnation alone
  pub last-inc : (h : List Event) (i : ℕ) (s : Stamp) → IsSound set h i → has (line set h i) s ≡ true → base set h i (inc set h i) < s.to → s.inc.0 ≡ inc set h i
  last-inc h i s g k lt =
      let b = base set h i (inc set h i) in
      let M = made_by i (inc set h i) (sent set h) in
      ⊎_elim (λ (old : has (upto b (line set h i)) s ≡ true). let low = (upto-has b (line set h i) s old).1 in absurd (omega arith))
      (λ (new : has M s ≡ true).
      let parts = and_parts _ _ (sym (has-made i (inc set h i) (sent set h) s) ∙ new) in
      eqb-true _ _ (and_parts _ _ parts.1).1)
      (or_cases _ _ (sym (list_any-append (λ t. same_stamp t s) (upto b (line set h i)) M) ∙ (ap (λ ys. has ys s) (sym g.split) ∙ k)))

  -- what is reported up to the agreed position has the whole line before the last base
  pub ack-is : (h : List Event) (i : ℕ) (R : List Stamp) → IsSound set h i → agreed set h i ≤ ack_of R (line set h i) →
      ack_of R (line set h i) ≡ end_of (base set h i (inc set h i)) (front_in R (made_by i (inc set h i) (sent set h)))
  ack-is h i R g le =
      let b = base set h i (inc set h i) in
      let L = line set h i in
      let M = made_by i (inc set h i) (sent set h) in
      let older = g.older (inc set h i) (omega arith) in
      let whole : (s : Stamp) → has (upto b L) s ≡ true → has R s ≡ true = λ s k.
      let there = upto-has b L s k in
      let to = there.1 in
      (front-has R L s (front-upto R 0 L s g.run there.0 (omega arith))).1 in
      ap (λ ys. end_of 0 (front_in R ys)) g.split ∙ (ap (end_of 0) (front_in-append R (upto b L) M whole)
      ∙ (end_of-append 0 (upto b L) (front_in R M) ∙ ap (λ (m : ℕ). end_of m (front_in R M)) (upto-end 0 b L g.run (g.base_ends (inc set h i) (omega arith)))))

  -- nothing of the last incarnation came where a lesser one is the greatest that came
  unseen : (h : List Event) (i : ℕ) (R : List Stamp) → seen_in R i < inc set h i → front_in R (made_by i (inc set h i) (sent set h)) ≡ []
  unseen h i R less = front_in-none R (made_by i (inc set h i) (sent set h)) (λ s k. false_from_ne_true (has R s) (λ r.
      let parts = and_parts (has (sent set h) s) _ (sym (has-made i (inc set h i) (sent set h) s) ∙ k) in
      let ids = and_parts _ _ parts.1 in
      let ge : s.inc.0 ≤ seen_in R i = seen-ge R i s r (eqb-true _ _ ids.0) in
      let e : s.inc.0 ≡ inc set h i = eqb-true _ _ ids.1 in
      absurd (omega arith)))

  -- a report that reaches past the agreed position is of the last incarnation
  pub grew : (h : List Event) (i : ℕ) (R : List Stamp) → IsSound set h i → agreed set h i < ack_of R (line set h i) → inc set h i ≤ seen_in R i
  grew h i R g lt = ⊎_elim
      (λ (less : seen_in R i < inc set h i).
      let is : ack_of R (line set h i) ≡ base set h i (inc set h i) = ack-is h i R g (omega arith) ∙ ap (end_of (base set h i (inc set h i))) (unseen h i R less) in
      let older = g.older (inc set h i) (omega arith) in
      absurd (omega arith))
      (λ (ge : inc set h i ≤ seen_in R i). ge)
      (cases_lt (seen_in R i) (inc set h i))

  -- The agreed position is past a base only where every partition has reported that incarnation or a later one.
  pub seen-past : (h : List Event) (i p c : ℕ) → 0 < set.parts → IsHistory set h → p < set.parts → c ≤ inc set h i → base set h i c < agreed set h i → c ≤ seen_in (reported set h p) i
  seen-past [] i p c some legal p_lt le = λ lt. absurd (omega arith)
  seen-past (event.Report q ∷ h) i p c some legal p_lt le = λ lt.
      let ih = seen-past h i p c some legal.1 p_lt le lt in
      cond_both (eqb q.0 p) (delivered set h p) (reported set h p) (λ ys. c ≤ seen_in ys i)
      (λ _. let grows = seen-mono (reported set h p) (delivered set h p) i (reported-delivered set h p) in omega arith) (λ _. ih)
  seen-past (event.Raise j ∷ h) i p c some legal p_lt le =
      cond_both (eqb j.0 i) (least_ack set h i) (agreed set h i) (λ (m : ℕ). base set h i c < m → c ≤ seen_in (reported set h p) i)
      (λ _ lt. ⊎_elim (λ (old : base set h i c < agreed set h i). seen-past h i p c some legal.1 p_lt le old)
      (λ (new : agreed set h i ≤ base set h i c).
      let least = least-le (ack set h 0 i) set.parts (λ q. ack set h q i) p p_lt in
      let more = grew h i (reported set h p) (sound set h i some legal.1) (omega arith) in
      omega arith) (cases_lt (base set h i c) (agreed set h i)))
      (λ _ lt. seen-past h i p c some legal.1 p_lt le lt)
  seen-past (event.Restart j ∷ h) i p c some legal p_lt le = λ lt.
      let g = sound set h i some legal.1 in
      ⊎_elim (λ (q : Stays set h j.0 i). seen-past h i p c some legal.1 p_lt (subst (λ (m : ℕ). c ≤ m) q.inc_is le) (subst (λ (ys : List ℕ). get_or ys c 0 < agreed set h i) q.bases_is lt))
      (λ (b : Back set h j.0 i). ⊎_elim
      (λ (old : c < inc set h i + 1). seen-past h i p c some legal.1 p_lt (omega arith) (subst (λ (m : ℕ). m < agreed set h i) (old_base set h j.0 i c b g (omega arith)) lt))
      (λ (top : inc set h i + 1 ≤ c).
      let e = b.inc_is in
      let same : c ≡ inc set h i + 1 = omega arith in
      let at = subst (λ (m : ℕ). base set (event.Restart j ∷ h) i m < agreed set h i) same lt in
      let new = new_base set h j.0 i b g in
      absurd (omega arith))
      (cases_lt c (inc set h i + 1)))
      (restarts set h j.0 i)
  seen-past (_ ∷ h) i p c some legal p_lt le = λ lt. seen-past h i p c some legal.1 p_lt le lt

  -- the incarnation that a partition keeps exists, and so does that of its row
  pub seen-within : (h : List Event) (i p : ℕ) → IsSound set h i → seen set h p i ≤ inc set h i
  seen-within h i p g = seen-le (delivered set h p) i (inc set h i) (λ s d e. g.later s (delivered-sent set h p s d) e)

  pub row-within : (h : List Event) (i p : ℕ) → IsSound set h i → seen_in (reported set h p) i ≤ inc set h i
  row-within h i p g = seen-le (reported set h p) i (inc set h i) (λ s r e. g.later s (reported-sent set h p s r) e)

  -- the incarnation of a row is at most the one that its partition keeps
  pub row-seen : (h : List Event) (i p : ℕ) → seen_in (reported set h p) i ≤ seen set h p i
  row-seen h i p = seen-mono (reported set h p) (delivered set h p) i (reported-delivered set h p)
