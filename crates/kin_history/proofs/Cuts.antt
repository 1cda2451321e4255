-- Laws of vectors, by the events.
use Rattle.std.proofs.Common.{◌≡◌, ◌≢◌, ℕ, ◌+◌, ◌<◌, ◌≤◌, Bool, true, false, eqb, ◌&&◌, ◌⊎◌, inl, inr, ⊎_elim, List, [], ◌∷◌, Option, Some, None, refl, ◌∙◌, subst, arith}
use Rattle.std.proofs.lemmas.Bool.{false_from_ne_true, cond_both, cond-true, cond-false, and_from, and_left, and_right, eq-eqb, ne_eqb, cases_eq}
use Rattle.kin_ids.specs.declared.stamps.Stamp.{Stamp}
use Rattle.kin_ids.specs.Order.{within}
use Rattle.kin_ids.specs.Lines.{IsEnd, end_of, has, upto, past}
use Rattle.kin_ids.proofs.Lines.{IsEnd-append, upto-ends, upto-line, upto-end, end_within, end_grows, upto-has, upto-past, end-past, past-line}
use Rattle.kin_ids.proofs.Joins.{within-law}
use Rattle.kin_ids.proofs.Turns.{fair-end}
use Rattle.kin_script.specs.declared.events.Event.{Event}
use Rattle.kin_script.specs.declared.events.Event.TheVariants as event
use Rattle.kin_history.specs.Setting.{Setting, nodes, IsHistory, after}
use Rattle.kin_history.specs.Lines.{inc, agreed, line, base, least_ack}
use Rattle.kin_history.specs.Vectors.{is_none, cut_at, unreported_part, cuts, vector}
use Rattle.kin_history.specs.CutLaws.{IsCutSound, KeepsCuts}
use Rattle.kin_history.proofs.Made.{Quiet, Makes, new_stamp, stamps, Stays, Back, restarts}
use Rattle.kin_history.proofs.Sound.{IsSound, sound}
use Rattle.kin_history.proofs.Seen.{agreed-least}
use Rattle.kin_history.proofs.Lasts.{rises, stays, history-front, keeps-bases-later}

module _ (set : Setting) where
  -- a cut that is refused, or one that is made
  pub record CutStays (h : List Event) (n : Option ℕ) : Type 0 where
    pub cuts_is : cuts set (event.Cut n ∷ h) ≡ cuts set h
    pub vector_is : (k i : ℕ) → vector set (event.Cut n ∷ h) k i ≡ vector set h k i

  abbrev pub new_vector : List Event → Option ℕ → ℕ → ℕ
  new_vector h n i = cut_at (nodes set) (λ j. vector set h (cuts set h) j) (λ j. upto (agreed set h j) (line set h j)) (λ j. agreed set h j) n i

  pub record CutMakes (h : List Event) (n : Option ℕ) : Type 0 where
    pub cuts_is : cuts set (event.Cut n ∷ h) ≡ cuts set h + 1
    pub old_is : (k i : ℕ) → k ≢ cuts set h + 1 → vector set (event.Cut n ∷ h) k i ≡ vector set h k i
    pub new_is : (i : ℕ) → vector set (event.Cut n ∷ h) (cuts set h + 1) i ≡ new_vector h n i

  pub cut_views : (h : List Event) (n : Option ℕ) → CutStays h n ⊎ CutMakes h n
  cut_views h n = go (is_none (unreported_part set h)) refl
    where
      go : (b : Bool) → is_none (unreported_part set h) ≡ b → CutStays h n ⊎ CutMakes h n
      go true e = inr (record {
        cuts_is = cond-true (is_none (unreported_part set h)) _ _ e;
        old_is = λ k i ne. cond-false (is_none (unreported_part set h) && eqb k (cuts set h + 1)) _ _ (and_right _ _ (ne_eqb _ _ ne));
        new_is = λ i. cond-true (is_none (unreported_part set h) && eqb (cuts set h + 1) (cuts set h + 1)) _ _ (and_from _ _ e (eq-eqb _ _ refl));
      })
      go false e = inl (record {
        cuts_is = cond-false (is_none (unreported_part set h)) _ _ e;
        vector_is = λ k i. cond-false (is_none (unreported_part set h) && eqb k (cuts set h + 1)) _ _ (and_left _ _ e);
      })

  -- where a new vector stands
  new-end : (h : List Event) (n : Option ℕ) (i : ℕ) → IsSound set h i → IsCutSound set h i → i < nodes set → IsEnd 0 (line set h i) (new_vector h n i) × (new_vector h n i ≤ agreed set h i) × (vector set h (cuts set h) i ≤ new_vector h n i)
  new-end h None i g s lt = (g.ends, omega arith, s.within (cuts set h))
  new-end h (Some n) i g s lt =
      let v = vector set h (cuts set h) i in
      let a = agreed set h i in
      let L = upto a (line set h i) in
      let run = upto-line 0 a (line set h i) g.run in
      let v_end = upto-ends 0 a v (line set h i) g.run (s.ends (cuts set h)) (s.within (cuts set h)) in
      let there = fair-end (λ j. vector set h (cuts set h) j) (λ j. past (vector set h (cuts set h) j) (upto (agreed set h j) (line set h j))) (nodes set) n i lt in
      let e : IsEnd 0 L (new_vector h (Some n) i) = end-past 0 v (new_vector h (Some n) i) L run v_end there in
      let most : new_vector h (Some n) i ≤ end_of 0 L = end_within 0 L (new_vector h (Some n) i) run e in
      let top : end_of 0 L ≡ a = upto-end 0 a (line set h i) g.run g.ends in
      (subst (λ xs. IsEnd 0 xs (new_vector h (Some n) i)) (upto-past a (line set h i)) (IsEnd-append 0 L (past a (line set h i)) (new_vector h (Some n) i) e), omega arith, end_grows v (past v L) (new_vector h (Some n) i) (past-line 0 v L run v_end) there)

  pub sound-cuts : (h : List Event) (i : ℕ) → 0 < set.parts → IsHistory set h → i < nodes set → IsCutSound set h i
  sound-cuts [] i some legal lt = record { first = refl; step = λ k l. absurd (omega arith); ends = λ k. refl; within = λ k. omega arith }
  sound-cuts (event.Stamp j n ∷ h) i some legal lt = let s = sound-cuts h i some legal.1 lt in
      record { first = s.first; step = s.step; ends = λ k. ⊎_elim (λ (q : Quiet set h j.0 n i). rw q.line_is (s.ends k)) (λ (m : Makes set h j.0 n i). rw m.line_is (IsEnd-append 0 (line set h i) (new_stamp set h i n ∷ []) _ (s.ends k))) (stamps set h j.0 n i); within = s.within }
  sound-cuts (event.Raise j ∷ h) i some legal lt = let s = sound-cuts h i some legal.1 lt in
      record {
        first = s.first;
        step = s.step;
        ends = s.ends;
        within = λ k. let w = s.within k in let grows = agreed-least set h i some (sound set h i some legal.1) in
            cond_both (eqb j.0 i) (least_ack set h i) (agreed set h i) (λ (m : ℕ). vector set h k i ≤ m) (λ _. omega arith) (λ _. w);
      }
  sound-cuts (event.Restart j ∷ h) i some legal lt = let s = sound-cuts h i some legal.1 lt in let g = sound set h i some legal.1 in
      record { first = s.first; step = s.step; ends = λ k. ⊎_elim (λ (q : Stays set h j.0 i). rw q.line_is (s.ends k)) (λ (b : Back set h j.0 i). rw b.line_is (upto-ends 0 (agreed set h i) (vector set h k i) (line set h i) g.run (s.ends k) (s.within k))) (restarts set h j.0 i); within = s.within }
  sound-cuts (event.Cut n ∷ h) i some legal lt = let s = sound-cuts h i some legal.1 lt in let g = sound set h i some legal.1 in
      ⊎_elim (λ (r : CutStays h n). record {
        first = r.vector_is 0 i ∙ s.first;
        step = λ k l. let a = r.vector_is k i in let b = r.vector_is (k + 1) i in let c = r.cuts_is in let d = s.step k (omega arith) in omega arith;
        ends = λ k. rw (r.vector_is k i) (s.ends k);
        within = λ k. rw (r.vector_is k i) (s.within k);
      })
      (λ (m : CutMakes h n).
      let new = new-end h n i g s lt in
      record {
        first = m.old_is 0 i (λ (e : 0 ≡ cuts set h + 1). omega arith) ∙ s.first;
        step = λ k l. let c = m.cuts_is in let a = m.old_is k i (λ (e : k ≡ cuts set h + 1). omega arith) in
            ⊎_elim (λ (e : k ≡ cuts set h). let least = new.2 in rw (a, e, m.new_is i) least)
            (λ (ne : k ≢ cuts set h). let d = s.step k (omega arith) in let b = m.old_is (k + 1) i (λ (e : k + 1 ≡ cuts set h + 1). omega arith) in omega arith)
            (cases_eq k (cuts set h));
        ends = λ k. ⊎_elim (λ (e : k ≡ cuts set h + 1). rw (e, m.new_is i) new.0) (λ (ne : k ≢ cuts set h + 1). rw (m.old_is k i ne) (s.ends k)) (cases_eq k (cuts set h + 1));
        within = λ k. ⊎_elim (λ (e : k ≡ cuts set h + 1). rw (e, m.new_is i) new.1) (λ (ne : k ≢ cuts set h + 1). rw (m.old_is k i ne) (s.within k)) (cases_eq k (cuts set h + 1));
      })
      (cut_views h n)
  sound-cuts (_ ∷ h) i some legal lt = let s = sound-cuts h i some legal.1 lt in record { first = s.first; step = s.step; ends = s.ends; within = s.within }

  -- what an event leaves of vectors
  pub keeps : (h : List Event) (e : Event) (i : ℕ) → 0 < set.parts → IsHistory set (e ∷ h) → i < nodes set → KeepsCuts set h (e ∷ h) i
  keeps h e i some legal lt =
      let s = sound-cuts h i some legal.1 lt in
      record { raised = rises set h e i some legal; more = more_cuts e; kept = λ k le. vector-stays e k le; inside = λ k le. stays set h e i (vector set h k i) some legal (s.within k) }
    where
      more_cuts : (e : Event) → cuts set h ≤ cuts set (e ∷ h)
      more_cuts (event.Cut n) = ⊎_elim (λ (r : CutStays h n). let c = r.cuts_is in omega arith) (λ (m : CutMakes h n). let c = m.cuts_is in omega arith) (cut_views h n)
      more_cuts _ = omega arith

      vector-stays : (e : Event) (k : ℕ) → k ≤ cuts set h → vector set (e ∷ h) k i ≡ vector set h k i
      vector-stays (event.Cut n) k le = ⊎_elim (λ (r : CutStays h n). r.vector_is k i) (λ (m : CutMakes h n). m.old_is k i (λ (e : k ≡ cuts set h + 1). omega arith)) (cut_views h n)
      vector-stays _ k le = refl

  joined : (a b c : List Event) (i : ℕ) → KeepsCuts set a b i → KeepsCuts set b c i → KeepsCuts set a c i
  joined a b c i f g =
      let f_more = f.more in
      let g_more = g.more in
      let f_raised = f.raised in
      let g_raised = g.raised in
      record {
        raised = omega arith;
        more = omega arith;
        kept = λ k le. g.kept k (omega arith) ∙ f.kept k le;
        inside = λ k le. subst (λ (v : ℕ). upto v (line set c i) ≡ upto v (line set b i)) (f.kept k le) (g.inside k (omega arith)) ∙ f.inside k le;
      }

  -- what any later events leave of vectors
  pub keeps-later : (h es : List Event) (i : ℕ) → 0 < set.parts → IsHistory set (after h es) → i < nodes set → KeepsCuts set h (after h es) i
  keeps-later h [] i some legal lt = record { raised = omega arith; more = omega arith; kept = λ k le. refl; inside = λ k le. refl }
  keeps-later h (e ∷ es) i some legal lt = joined h (e ∷ h) (after h (e ∷ es)) i (keeps h e i some (history-front set (e ∷ h) es legal) lt) (keeps-later (e ∷ h) es i some legal lt)

  -- what is within a vector lies before the seal of its incarnation
  pub sealed : (h : List Event) (i k : ℕ) (s : Stamp) → IsSound set h i → has (within (line set h) (vector set h) k i) s ≡ true → s.inc.0 < inc set h i → s.to ≤ base set h i (s.inc.0 + 1)
  sealed h i k s g in_it old =
      let count = g.count in
      let front = subst (λ ss. has ss s ≡ true) (within-law (line set h) (vector set h) k i 0 g.run) in_it in
      (g.places s (upto-has (vector set h k i) (line set h i) s front).0).ends (omega arith)

  -- what an ended incarnation stamped past its seal is within no vector
  pub never-within : (h es : List Event) (i k : ℕ) (s : Stamp) → 0 < set.parts → IsHistory set (after h es) → s.inc.0 < inc set h i → base set h i (s.inc.0 + 1) < s.to →
      has (within (line set (after h es)) (vector set (after h es)) k i) s ≡ false
  never-within h es i k s some legal old past_seal = false_from_ne_true _ (λ in_it.
      let later = keeps-bases-later set h es i some legal in
      let more = later.more in
      let same = later.kept (s.inc.0 + 1) (omega arith) in
      let low = sealed (after h es) i k s (sound set (after h es) i some legal) in_it (omega arith) in
      omega arith)
