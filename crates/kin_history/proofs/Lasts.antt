-- What lasts: agreed positions don't fall, what they cover stays, and what a restart keeps and loses.
use Rattle.std.proofs.Common.{◌≡◌, ◌≢◌, ℕ, ◌+◌, ◌<◌, ◌≤◌, Bool, true, false, cond, eqb, leb, ltb, ◌&&◌, ⊎_elim, List, [], ◌∷◌, refl, sym, ◌∙◌, ap, arith, min, not}
use Rattle.std.proofs.lemmas.Bool.{cond_both, cond-true, cond-false, false≢true, and_from, and_left, or_cases, or_left, or_right, eq-eqb, ne_eqb, both_ways, cases_lt, leb-false, lt-leb}
use Rattle.std.specs.List.{filter}
use Rattle.kin_ids.specs.declared.ids.IngestId.{IngestId}
use Rattle.kin_ids.specs.declared.stamps.Stamp.{Stamp}
use Rattle.kin_ids.specs.Lines.{IsLine, same_stamp, has, upto}
use Rattle.kin_ids.proofs.Lines.{same_from_test, lies, upto-append, upto-upto, upto-has, end_within}
use Rattle.kin_script.specs.declared.events.Event.{Event}
use Rattle.kin_script.specs.declared.events.Event.TheVariants as event
use Rattle.kin_script.specs.declared.outcomes.Outcome.TheVariants as outcome
use Rattle.kin_script.specs.declared.outcomes.Refusal.TheVariants as refusal
use Rattle.kin_ids.proofs.Joins.{filter-upto}
use Rattle.kin_history.specs.Setting.{Setting, feed_len, IsHistory, after}
use Rattle.kin_history.specs.Lines.{comes_back, up, inc, line, next, least_ack, agreed}
use Rattle.kin_history.specs.Outcomes.{outcome_of}
use Rattle.kin_history.specs.Laws.{IsAccepted, IsCutBack, KeepsBases}
use Rattle.kin_history.proofs.Made.{Quiet, Makes, new_stamp, stamps, Stays, Back, restarts}
use Rattle.kin_history.proofs.Sound.{IsSound, old_base, new_base, sound}
use Rattle.kin_history.proofs.Seen.{agreed-least}

-- on a line the front up to a position is what ends at or before it
pub upto-filter : (at b : ℕ) (ss : List Stamp) → IsLine at ss → upto b ss ≡ filter (λ (s : Stamp). leb s.to b) ss
upto-filter at b ss l = sym (filter-upto at b ss l)

-- a stamp of a line that ends at or before a position is of the front up to it
pub has-upto : (at b : ℕ) (ss : List Stamp) (s : Stamp) → IsLine at ss → has ss s ≡ true → s.to ≤ b → has (upto b ss) s ≡ true
has-upto at b [] s l h le = absurd (false≢true h)
has-upto at b (x ∷ ss) s l h le =
    cond_both (leb x.to b) (x ∷ upto b ss) [] (λ ys. has ys s ≡ true)
    (λ _. ⊎_elim (λ (e : same_stamp x s ≡ true). or_left _ _ e) (λ (r : has ss s ≡ true). or_right _ _ (has-upto x.to b ss s l.2 r le)) (or_cases _ _ h))
    (λ n. let out = leb-false _ _ n in
    ⊎_elim (λ (e : same_stamp x s ≡ true). let same : x.to ≡ s.to = ap (λ (y : Stamp). y.to) (same_from_test x s e) in absurd (omega arith))
    (λ (r : has ss s ≡ true). let there = lies x.to ss s l.2 r in let from = there.from in let some = there.some in absurd (omega arith))
    (or_cases (same_stamp x s) (has ss s) h))

module _ (set : Setting) where
  pub rises : (h : List Event) (e : Event) (i : ℕ) → 0 < set.parts → IsHistory set (e ∷ h) → agreed set h i ≤ agreed set (e ∷ h) i
  rises h (event.Raise j) i some legal = let grows = agreed-least set h i some (sound set h i some legal.1) in
      cond_both (eqb j.0 i) (least_ack set h i) (agreed set h i) (λ (m : ℕ). agreed set h i ≤ m) (λ _. grows) (λ _. omega arith)
  rises h _ i some legal = omega arith

  -- what lies up to the agreed position stays
  pub stays : (h : List Event) (e : Event) (i m : ℕ) → 0 < set.parts → IsHistory set (e ∷ h) → m ≤ agreed set h i → upto m (line set (e ∷ h) i) ≡ upto m (line set h i)
  stays h (event.Stamp j n) i m some legal le = let g = sound set h i some legal.1 in
      ⊎_elim (λ (q : Quiet set h j.0 n i). rw q.line_is refl)
      (λ (made : Makes set h j.0 n i).
      let low = end_within 0 (line set h i) (agreed set h i) g.run g.ends in
      let in_feed : next set h i ≤ feed_len set i = g.within in
      let differ : next set h i ≢ feed_len set i = made.more in
      let some_records : 0 < n = legal.0.1 in
      let beyond : m < min (next set h i + n) (feed_len set i) = omega arith in
      rw made.line_is (upto-append m (line set h i) (new_stamp set h i n ∷ []) (cond-false (leb (min (next set h i + n) (feed_len set i)) m) _ _ (lt-leb _ _ beyond))))
      (stamps set h j.0 n i)
  stays h (event.Restart j) i m some legal le =
      ⊎_elim (λ (q : Stays set h j.0 i). rw q.line_is refl) (λ (b : Back set h j.0 i). rw b.line_is (upto-upto m (agreed set h i) (line set h i) le)) (restarts set h j.0 i)
  stays h _ i m some legal le = refl

  -- a part of a legal history is legal
  pub history-front : (h es : List Event) → IsHistory set (after h es) → IsHistory set h
  history-front h [] legal = legal
  history-front h (e ∷ es) legal = (history-front (e ∷ h) es legal).1

  pub rises-later : (h es : List Event) (i : ℕ) → 0 < set.parts → IsHistory set (after h es) → agreed set h i ≤ agreed set (after h es) i
  rises-later h [] i some legal = omega arith
  rises-later h (e ∷ es) i some legal = let one = rises h e i some (history-front (e ∷ h) es legal) in let rest = rises-later (e ∷ h) es i some legal in omega arith

  pub stays-later : (h es : List Event) (i m : ℕ) → 0 < set.parts → IsHistory set (after h es) → m ≤ agreed set h i → upto m (line set (after h es) i) ≡ upto m (line set h i)
  stays-later h [] i m some legal le = refl
  stays-later h (e ∷ es) i m some legal le =
      let now = history-front (e ∷ h) es legal in
      let more = rises h e i some now in
      stays-later (e ∷ h) es i m some legal (omega arith) ∙ stays h e i m some now le

  -- only what ends past the agreed position is lost
  pub loss : (h : List Event) (e : Event) (i : ℕ) (s : Stamp) → 0 < set.parts → IsHistory set (e ∷ h) → has (line set h i) s ≡ true → has (line set (e ∷ h) i) s ≡ false → agreed set h i < s.to
  loss h e i s some legal was gone =
      ⊎_elim (λ (lt : agreed set h i < s.to). lt)
      (λ (le : s.to ≤ agreed set h i).
      let g = sound set h i some legal.1 in
      let a = agreed set h i in
      let there : has (upto a (line set (e ∷ h) i)) s ≡ true = ap (λ ys. has ys s) (stays h e i a some legal (omega arith)) ∙ has-upto 0 a (line set h i) s g.run was le in
      absurd (both_ways _ gone (upto-has a (line set (e ∷ h) i) s there).0))
      (cases_lt (agreed set h i) s.to)

  -- an accepted restart brings its node back
  comes-back : (h : List Event) (j : IngestId) → IsAccepted (outcome_of set h (event.Restart j)) → comes_back (up set h j.0) (inc set h j.0) ≡ true
  comes-back h j = go (up set h j.0) (ltb (inc set h j.0) 65535)
    where
      go : (u b : Bool) → IsAccepted (cond u (outcome.Refused refusal.Up) (cond b (outcome.Restarted (record { 0 = inc set h j.0 + 1 }) (agreed set h j.0)) (outcome.Refused refusal.IncarnationsSpent))) → (not u && b) ≡ true
      go true b never = absurd never
      go false true fine = refl
      go false false never = absurd never

  pub cut-back : (h : List Event) (j : IngestId) → 0 < set.parts → IsHistory set h → IsAccepted (outcome_of set h (event.Restart j)) → IsCutBack set h j
  cut-back h j some legal accepted =
      let g = sound set h j.0 some legal in
      let test : (eqb j.0 j.0 && comes_back (up set h j.0) (inc set h j.0)) ≡ true = and_from _ _ (eq-eqb j.0 j.0 refl) (comes-back h j accepted) in
      let back : Back set h j.0 j.0 = record { line_is = cond-true (eqb j.0 j.0 && comes_back (up set h j.0) (inc set h j.0)) _ _ test; inc_is = cond-true (eqb j.0 j.0 && comes_back (up set h j.0) (inc set h j.0)) _ _ test; bases_is = cond-true (eqb j.0 j.0 && comes_back (up set h j.0) (inc set h j.0)) _ _ test } in
      record {
        front = back.line_is;
        exactly = back.line_is ∙ upto-filter 0 (agreed set h j.0) (line set h j.0) g.run;
        lost = λ s was gone. ⊎_elim (λ (lt : agreed set h j.0 < s.to). lt)
            (λ (le : s.to ≤ agreed set h j.0). absurd (both_ways _ gone (ap (λ ys. has ys s) back.line_is ∙ has-upto 0 (agreed set h j.0) (line set h j.0) s g.run was le)))
            (cases_lt (agreed set h j.0) s.to);
        later = back.inc_is;
        begins = new_base set h j.0 j.0 back g;
        others = λ i ne. cond-false (eqb j.0 i && comes_back (up set h i) (inc set h i)) _ _ (and_left _ _ (ne_eqb j.0 i (λ e. ne (sym e))));
      }

  -- a restart adds a base, and no event changes one
  keeps-bases : (h : List Event) (e : Event) (i : ℕ) → IsSound set h i → KeepsBases set h (e ∷ h) i
  keeps-bases h (event.Restart j) i g =
      ⊎_elim (λ (q : Stays set h j.0 i). record { more = rw q.inc_is (omega arith); kept = λ c le. rw q.bases_is refl })
      (λ (b : Back set h j.0 i). record { more = rw b.inc_is (omega arith); kept = λ c le. old_base set h j.0 i c b g le })
      (restarts set h j.0 i)
  keeps-bases h _ i g = record { more = omega arith; kept = λ c le. refl }

  pub keeps-bases-later : (h es : List Event) (i : ℕ) → 0 < set.parts → IsHistory set (after h es) → KeepsBases set h (after h es) i
  keeps-bases-later h [] i some legal = record { more = omega arith; kept = λ c le. refl }
  keeps-bases-later h (e ∷ es) i some legal =
      let one = keeps-bases h e i (sound set h i some (history-front h (e ∷ es) legal)) in
      let rest = keeps-bases-later (e ∷ h) es i some legal in
      let first = one.more in
      let later = rest.more in
      record { more = omega arith; kept = λ c le. rest.kept c (omega arith) ∙ one.kept c le }
