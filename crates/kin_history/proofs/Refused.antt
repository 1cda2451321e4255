-- Refused events change nothing.
use Rattle.std.proofs.Common.{◌≡◌, ℕ, ◌+◌, Bool, true, false, cond, eqb, ltb, ◌&&◌, ◌||◌, ◌⊎◌, inl, inr, ⊎_elim, List, ◌∷◌, Option, Some, None, refl, sym, ◌∙◌, ap, subst, not}
use Rattle.std.proofs.Math.Path.{fun_ext}
use Rattle.std.proofs.lemmas.Bool.{cond_both, cond-true, cond-false, and_parts, and_left, and_right, both_ways, eqb-true, false_from_ne_true}
use Rattle.kin_ids.specs.declared.stamps.Stamp.{Stamp}
use Rattle.kin_ids.specs.declared.ids.IngestId.{IngestId}
use Rattle.kin_ids.specs.declared.ids.PartId.{PartId}
use Rattle.kin_ids.specs.declared.ids.Inc.{Inc}
use Rattle.kin_ids.specs.Lines.{has, find_stamp, with_next, with_found}
use Rattle.kin_script.specs.declared.events.Event.{Event}
use Rattle.kin_script.specs.declared.outcomes.Refusal.{Refusal}
use Rattle.kin_script.specs.declared.events.Event.TheVariants as event
use Rattle.kin_script.specs.declared.outcomes.Outcome.TheVariants as outcome
use Rattle.kin_script.specs.declared.outcomes.Refusal.TheVariants as refusal
use Rattle.kin_history.specs.Setting.{Setting, feed_len}
use Rattle.kin_history.specs.Lines.{comes_back, up, inc, line, next, sent, delivered, agreed, bases, seen, top, least_ack}
use Rattle.kin_history.specs.Vectors.{is_none, unreported_part, cuts, vector, committed}
use Rattle.kin_history.specs.Mining.{is_clear, held_back, mined, is_open}
use Rattle.kin_history.specs.Outcomes.{cut_answer, begin_answer, mine_answer, delivery, outcome_of}
use Rattle.kin_history.specs.RefusalLaws.{standing}
use Rattle.kin_history.proofs.Made.{new_stamp}

cond-same : {X : Type 0} (b : Bool) (x : X) → cond b x x ≡ x
cond-same true x = refl
cond-same false x = refl

module _ (set : Setting) (h : List Event) where
  -- a stamp is refused where the node is down, or has stamped its whole feed
  record CanNot (j : IngestId) : Type 0 where
    why : (up set h j.0 ≡ false) ⊎ (eqb (next set h j.0) (feed_len set j.0) ≡ true)

  stamp-refused : (j : IngestId) (n : ℕ) (why : Refusal) → outcome_of set h (event.Stamp j n) ≡ outcome.Refused why → CanNot j
  stamp-refused j n why = go (up set h j.0) refl (eqb (next set h j.0) (feed_len set j.0)) refl
    where
      go : (u : Bool) → up set h j.0 ≡ u → (x : Bool) → eqb (next set h j.0) (feed_len set j.0) ≡ x →
          cond (not u) (outcome.Refused refusal.Down) (cond x (outcome.Refused refusal.Exhausted) (outcome.Stamped (new_stamp set h j.0 n))) ≡ outcome.Refused why → CanNot j
      go false u x t e = record { why = inl u }
      go true u true t e = record { why = inr t }
      go true u false t e = absurd cc

  line-kept : (j : IngestId) (n : ℕ) → CanNot j → (i : ℕ) → line set (event.Stamp j n ∷ h) i ≡ line set h i
  line-kept j n off i = cond_both (eqb j.0 i && up set h i) (with_next (feed_len set i) i (inc set h i) n (line set h i)) (line set h i) (λ ys. ys ≡ line set h i)
      (λ t. let parts = and_parts _ _ t in
      let whole : eqb (next set h i) (feed_len set i) ≡ true = subst (λ (k : ℕ). up set h k ≡ true → eqb (next set h k) (feed_len set k) ≡ true) (eqb-true _ _ parts.0)
      (λ up_too. ⊎_elim (λ (down : up set h j.0 ≡ false). absurd (both_ways _ down up_too)) (λ (w : eqb (next set h j.0) (feed_len set j.0) ≡ true). w) off.why) parts.1 in
      cond-true (eqb (next set h i) (feed_len set i)) _ _ whole)
      (λ _. refl)

  sent-kept : (j : IngestId) (n : ℕ) → CanNot j → sent set (event.Stamp j n ∷ h) ≡ sent set h
  sent-kept j n off = cond-false (up set h j.0 && not (eqb (next set h j.0) (feed_len set j.0))) _ _
      (⊎_elim (λ (down : up set h j.0 ≡ false). and_left _ _ down) (λ (whole : eqb (next set h j.0) (feed_len set j.0) ≡ true). and_right _ _ (ap not whole)) off.why)

  -- a delivery is refused where no stamp is found
  deliver-refused : (p : PartId) (j : IngestId) (c : Inc) (to : ℕ) (why : Refusal) → outcome_of set h (event.Deliver p j c to) ≡ outcome.Refused why → find_stamp (sent set h) j.0 c.0 to ≡ None
  deliver-refused p j c to why = go (find_stamp (sent set h) j.0 c.0 to)
    where
      answered : (a b d : Bool) (s : Inc) (at : ℕ) → cond a (outcome.Stale s) (cond b outcome.Repeat (cond d (outcome.Early at) (outcome.Held at))) ≡ outcome.Refused why → ⊥
      answered true b d s at e = cc
      answered false true d s at e = cc
      answered false false true s at e = cc
      answered false false false s at e = cc

      go : (o : Option Stamp) → delivery set h (event.Deliver p j c to) p.0 j.0 o ≡ outcome.Refused why → o ≡ None
      go None e = refl
      go (Some s) e = absurd (answered (ltb s.inc.0 (seen set h p.0 j.0)) (has (delivered set h p.0) s) (ltb (top set (event.Deliver p j c to ∷ h) p.0 j.0) s.to) (record { 0 = seen set h p.0 j.0 }) (top set (event.Deliver p j c to ∷ h) p.0 j.0) e)

  delivered-kept : (p : PartId) (j : IngestId) (c : Inc) (to : ℕ) → find_stamp (sent set h) j.0 c.0 to ≡ None → (q : ℕ) → delivered set (event.Deliver p j c to ∷ h) q ≡ delivered set h q
  delivered-kept p j c to none q = ap (λ o. cond (eqb p.0 q) (with_found o (delivered set h q)) (delivered set h q)) none ∙ cond-same (eqb p.0 q) (delivered set h q)

  -- a raise never is
  raised : (b : Bool) (x y : ℕ) (why : Refusal) → cond b (outcome.Raised x) (outcome.Level y) ≡ outcome.Refused why → ⊥
  raised true x y why e = cc
  raised false x y why e = cc

  -- a cut is where a partition never reported
  cut-refused : (o : Option ℕ) (k : ℕ) (why : Refusal) → cut_answer k o ≡ outcome.Refused why → is_none o ≡ false
  cut-refused None k why e = absurd cc
  cut-refused (Some p) k why e = refl

  -- a commit is where nothing is left to commit
  commit-refused : (b : Bool) (k : ℕ) (why : Refusal) → cond b (outcome.Committed (record { 0 = k })) (outcome.Refused refusal.NothingCut) ≡ outcome.Refused why → b ≡ false
  commit-refused true k why e = absurd cc
  commit-refused false k why e = refl

  committed-kept : (p : PartId) → ltb (committed set h p.0) (cuts set h) ≡ false → (q : ℕ) → committed set (event.Commit p ∷ h) q ≡ committed set h q
  committed-kept p off q = cond-false (eqb p.0 q && ltb (committed set h q) (cuts set h)) _ _ (false_from_ne_true _ (λ t.
      let parts = and_parts _ _ t in
      both_ways _ off (subst (λ (k : ℕ). ltb (committed set h k) (cuts set h) ≡ true) (sym (eqb-true _ _ parts.0)) parts.1)))

  -- a begin and a mine are where something holds the epoch back, and a begin where one is open
  begin-refused : (o : Bool) (r : Option Refusal) (k : ℕ) (why : Refusal) → cond o (outcome.Refused (refusal.Busy (record { 0 = k }))) (begin_answer k r) ≡ outcome.Refused why → (o || is_clear r) ≡ o
  begin-refused true r k why e = refl
  begin-refused false None k why e = absurd cc
  begin-refused false (Some r) k why e = refl

  mine-refused : (o : Bool) (r : Option Refusal) (k : ℕ) (why : Refusal) → cond o (outcome.Mined (record { 0 = k })) (mine_answer k r) ≡ outcome.Refused why → (o ≡ false) × ((o || is_clear r) ≡ false)
  mine-refused true r k why e = absurd cc
  mine-refused false None k why e = absurd cc
  mine-refused false (Some r) k why e = (refl, refl)

  -- a crash is where the node is down
  crash-refused : (u : Bool) (why : Refusal) → cond (not u) (outcome.Refused refusal.Down) outcome.Crashed ≡ outcome.Refused why → u ≡ false
  crash-refused true why e = absurd cc
  crash-refused false why e = refl

  up-kept : (j : IngestId) → up set h j.0 ≡ false → (i : ℕ) → up set (event.Crash j ∷ h) i ≡ up set h i
  up-kept j down i = cond_both (eqb j.0 i) false (up set h i) (λ u. u ≡ up set h i) (λ t. subst (λ (k : ℕ). false ≡ up set h k) (eqb-true _ _ t) (sym down)) (λ _. refl)

  -- a restart is where the node doesn't come back
  restart-refused : (u b : Bool) (c at : ℕ) (why : Refusal) → cond u (outcome.Refused refusal.Up) (cond b (outcome.Restarted (record { 0 = c }) at) (outcome.Refused refusal.IncarnationsSpent)) ≡ outcome.Refused why → (not u && b) ≡ false
  restart-refused true b c at why e = refl
  restart-refused false true c at why e = absurd cc
  restart-refused false false c at why e = refl

  no_restart : (j : IngestId) → comes_back (up set h j.0) (inc set h j.0) ≡ false → (i : ℕ) → (eqb j.0 i && comes_back (up set h i) (inc set h i)) ≡ false
  no_restart j off i = false_from_ne_true _ (λ t.
      let parts = and_parts _ _ t in
      both_ways _ off (subst (λ (k : ℕ). comes_back (up set h k) (inc set h k) ≡ true) (sym (eqb-true _ _ parts.0)) parts.1))

  pub refused : (e : Event) (why : Refusal) → outcome_of set h e ≡ outcome.Refused why → standing set (e ∷ h) ≡ standing set h
  refused (event.Stamp j n) why e = let off = stamp-refused j n why e in λ t. record (standing set h) { line = fun_ext (line-kept j n off) t; sent = sent-kept j n off t }
  refused (event.Deliver p j c to) why e = λ t. record (standing set h) { delivered = fun_ext (delivered-kept p j c to (deliver-refused p j c to why e)) t }
  refused (event.Report p) why e = absurd cc
  refused (event.Raise j) why e = absurd (raised (ltb (agreed set h j.0) (least_ack set h j.0)) (least_ack set h j.0) (agreed set h j.0) why e)
  refused (event.Cut n) why e =
      let off = cut-refused (unreported_part set h) (cuts set h + 1) why e in
      let same : (k i : ℕ) → vector set (event.Cut n ∷ h) k i ≡ vector set h k i = λ k i. cond-false (is_none (unreported_part set h) && eqb k (cuts set h + 1)) _ _ (and_left _ _ off) in
      λ t. record (standing set h) { cuts = cond-false (is_none (unreported_part set h)) (cuts set h + 1) (cuts set h) off t; vector = fun_ext (λ k. fun_ext (same k)) t }
  refused (event.Commit p) why e = λ t. record (standing set h) { committed = fun_ext (committed-kept p (commit-refused (ltb (committed set h p.0) (cuts set h)) (committed set h p.0 + 1) why e)) t }
  refused event.Begin why e = λ t. record (standing set h) { is_open = begin-refused (is_open set h) (held_back set h (mined set h + 1)) (mined set h + 1) why e t }
  refused (event.Turn u) why e = refl
  refused event.Mine why e =
      let off = mine-refused (is_open set h) (held_back set h (mined set h + 1)) (mined set h + 1) why e in
      λ t. record (standing set h) { mined = cond-false (is_open set h || is_clear (held_back set h (mined set h + 1))) (mined set h + 1) (mined set h) off.1 t; is_open = sym off.0 t }
  refused (event.Crash j) why e = λ t. record (standing set h) { up = fun_ext (up-kept j (crash-refused (up set h j.0) why e)) t }
  refused (event.Restart j) why e =
      let off = restart-refused (up set h j.0) (ltb (inc set h j.0) 65535) (inc set h j.0 + 1) (agreed set h j.0) why e in
      let test = no_restart j off in
      λ t. record (standing set h) {
        up = fun_ext {f = up set (event.Restart j ∷ h)} (λ i. cond-false (eqb j.0 i && comes_back (up set h i) (inc set h i)) true (up set h i) (test i)) t;
        inc = fun_ext {f = inc set (event.Restart j ∷ h)} (λ i. cond-false (eqb j.0 i && comes_back (up set h i) (inc set h i)) (inc set h i + 1) (inc set h i) (test i)) t;
        line = fun_ext {f = line set (event.Restart j ∷ h)} (λ i. cond-false (eqb j.0 i && comes_back (up set h i) (inc set h i)) _ _ (test i)) t;
        bases = fun_ext {f = bases set (event.Restart j ∷ h)} (λ i. cond-false (eqb j.0 i && comes_back (up set h i) (inc set h i)) _ _ (test i)) t;
      }
