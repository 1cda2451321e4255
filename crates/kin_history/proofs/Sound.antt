-- What holds of a node after every history.
use Rattle.std.proofs.Common.{◌≡◌, ◌≢◌, ℕ, zero, suc, ◌+◌, ◌<◌, ◌≤◌, true, false, eqb, ⊎_elim, List, [], ◌∷◌, ◌++◌, refl, sym, ◌∙◌, ap, subst, arith, leb, length, get_or, append_assoc}
use Rattle.std.proofs.lemmas.Bool.{cond_both, cond-true, cond-false, false≢true, and_parts, and_from, or_cases, or_right, eqb-true, eq-eqb, ne_eqb, cases_eq, cases_lt, false_from_ne_true, both_ways, and_right, lt-leb}
use Rattle.std.proofs.lemmas.List.{append-nil, get_or_append_left, get_or_push, length_push}
use Rattle.kin_ids.specs.declared.stamps.Stamp.{Stamp}
use Rattle.kin_ids.specs.Lines.{end_of, same_stamp, has, front_in, IsLine, IsEnd, upto, is_of, made_by, ack_of}
use Rattle.kin_ids.specs.Fair.{IsSized}
use Rattle.kin_ids.proofs.Lines.{same_stamp-refl, same_from_test, has-push, end_of-append, IsLine-append, line_grows, lies, front_in-fresh, front-end, least-end, least-le, least-ge, IsEnd-append, front-grows, made_by-push, has-made, upto-append, upto-upto, upto-line, upto-end, upto-ends, upto-has, end_within, ack-cut, nil_from_has}
use Rattle.kin_script.specs.declared.events.Event.{Event}
use Rattle.kin_script.specs.declared.events.Event.TheVariants as event
use Rattle.kin_history.specs.Setting.{Setting, feed_len, IsHistory}
use Rattle.kin_history.specs.Lines.{inc, line, next, sent, delivered, reported, bases, base, ack, least_ack, agreed}
use Rattle.kin_history.specs.Laws.{IsPlaced}
use Rattle.kin_history.proofs.Made.{Quiet, Makes, new_stamp, stamps, Stays, Back, restarts, sent-grows, reported-delivered, reported-sent}

module _ (set : Setting) where
  -- A node after a history: its line and its feed, its bases and its agreed position, its stamps by incarnation, and what was reported.
  pub record IsSound (h : List Event) (i : ℕ) : Type 0 where
    pub run : IsLine 0 (line set h i)
    pub within : next set h i ≤ feed_len set i
    pub count : length (bases set h i) ≡ inc set h i + 1
    pub first : base set h i 0 ≡ 0
    pub ordered : (c d : ℕ) → c ≤ d → d ≤ inc set h i → base set h i c ≤ base set h i d
    pub older : (c : ℕ) → c ≤ inc set h i → base set h i c ≤ agreed set h i
    pub ends : IsEnd 0 (line set h i) (agreed set h i)
    pub base_ends : (c : ℕ) → c ≤ inc set h i → IsEnd 0 (line set h i) (base set h i c)
    pub made : (c : ℕ) → c ≤ inc set h i → IsLine (base set h i c) (made_by i c (sent set h))
    pub later : (s : Stamp) → has (sent set h) s ≡ true → s.ingest.0 ≡ i → s.inc.0 ≤ inc set h i
    pub sizes : (s : Stamp) → has (sent set h) s ≡ true → s.ingest.0 ≡ i → IsSized s × (s.to ≤ feed_len set i)
    pub split : line set h i ≡ upto (base set h i (inc set h i)) (line set h i) ++ made_by i (inc set h i) (sent set h)
    pub places : (s : Stamp) → has (line set h i) s ≡ true → IsPlaced (sent set h) (bases set h i) i s
    pub acks : (p : ℕ) → p < set.parts → agreed set h i ≤ ack set h p i

  sound-quiet : (h : List Event) (j n i : ℕ) → Quiet set h j n i → IsSound h i → IsSound (event.Stamp (record { 0 = j }) n ∷ h) i
  sound-quiet h j n i q ih = record {
    run = rw q.line_is ih.run;
    within = rw q.line_is ih.within;
    count = ih.count;
    first = ih.first;
    ordered = ih.ordered;
    older = ih.older;
    ends = rw q.line_is ih.ends;
    base_ends = rw q.line_is ih.base_ends;
    made = λ c le. subst (IsLine (base set h i c)) (sym (q.made_is c)) (ih.made c le);
    later = λ s k e. ih.later s (sym (q.sent_is s e) ∙ k) e;
    sizes = λ s k e. ih.sizes s (sym (q.sent_is s e) ∙ k) e;
    split = q.line_is ∙ (ih.split ∙ (ap (λ ys. upto (base set h i (inc set h i)) ys ++ made_by i (inc set h i) (sent set h)) (sym q.line_is)
        ∙ ap (λ ys. upto (base set h i (inc set h i)) (line set (event.Stamp (record { 0 = j }) n ∷ h) i) ++ ys) (sym (q.made_is (inc set h i)))));
    places = λ s k. let old = ih.places s (ap (λ ys. has ys s) (sym q.line_is) ∙ k) in
        record { made = sent-grows set h (event.Stamp (record { 0 = j }) n) s old.made; ingest = old.ingest; began = old.began; begins = old.begins; ends = old.ends };
    acks = λ p lt. subst (λ ys. agreed set h i ≤ ack_of (reported set h p) ys) (sym q.line_is) (ih.acks p lt);
  }

  -- where the line goes on past the last base
  pub line-ends : (h : List Event) (i : ℕ) → IsSound h i → end_of (base set h i (inc set h i)) (made_by i (inc set h i) (sent set h)) ≡ next set h i
  line-ends h i g =
      let b = base set h i (inc set h i) in
      let M = made_by i (inc set h i) (sent set h) in
      ap (λ (m : ℕ). end_of m M) (sym (upto-end 0 b (line set h i) g.run (g.base_ends (inc set h i) (omega arith)))) ∙ (sym (end_of-append 0 (upto b (line set h i)) M) ∙ ap (end_of 0) (sym g.split))

  -- a stamp that is made is new
  pub fresh : (h : List Event) (j n i : ℕ) → 0 < n → Makes set h j n i → IsSound h i → has (sent set h) (new_stamp set h i n) ≡ false
  fresh h j n i some m g = false_from_ne_true _ (λ old.
      let M = made_by i (inc set h i) (sent set h) in
      let there = lies (base set h i (inc set h i)) M (new_stamp set h i n) (g.made (inc set h i) (omega arith))
      (has-made i (inc set h i) (sent set h) (new_stamp set h i n) ∙ and_from _ _ old (and_from _ _ (eq-eqb i i refl) (eq-eqb (inc set h i) (inc set h i) refl))) in
      let ends = there.to in
      let at = line-ends h i g in
      let differ = m.more in
      let within = g.within in
      absurd (omega arith))

  sound-made : (h : List Event) (j n i : ℕ) → 0 < n → n ≤ 16 → Makes set h j n i → IsSound h i → IsSound (event.Stamp (record { 0 = j }) n ∷ h) i
  sound-made h j n i some few m g =
      let b = base set h i (inc set h i) in
      let L = line set h i in
      let M = made_by i (inc set h i) (sent set h) in
      let x = new_stamp set h i n in
      let differ = m.more in
      let within = g.within in
      let count = g.count in
      let ends = line-ends h i g in
      let past : b ≤ next set h i = subst (λ (k : ℕ). b ≤ k) ends (line_grows b M (g.made (inc set h i) (omega arith))) in
      let out : upto b (x ∷ []) ≡ [] = cond-false (leb x.to b) _ _ (lt-leb _ _ (omega arith)) in
      let new_made : made_by i (inc set h i) (sent set h ++ x ∷ []) ≡ M ++ x ∷ [] = made_by-push i (inc set h i) (sent set h) x ∙ cond-true (is_of i (inc set h i) x) _ _ (and_from _ _ (eq-eqb i i refl) (eq-eqb (inc set h i) (inc set h i) refl)) in
      let there : has (sent set (event.Stamp (record { 0 = j }) n ∷ h)) x ≡ true = ap (λ ys. has ys x) m.sent_is ∙ (has-push (sent set h) x x ∙ or_right (has (sent set h) x) _ (same_stamp-refl x)) in
      let in_line : (s : Stamp) → same_stamp x s ≡ true → IsPlaced (sent set (event.Stamp (record { 0 = j }) n ∷ h)) (bases set h i) i s = λ s t. subst (IsPlaced (sent set (event.Stamp (record { 0 = j }) n ∷ h)) (bases set h i) i) (same_from_test x s t)
      (record { made = there; ingest = refl; began = omega arith; begins = past; ends = λ lt. absurd (omega arith) }) in
      let sized : (s : Stamp) → same_stamp x s ≡ true → IsSized s × (s.to ≤ feed_len set i) = λ s t. subst (λ (y : Stamp). IsSized y × (y.to ≤ feed_len set i)) (same_from_test x s t)
      (record { some = omega arith; few = omega arith }, omega arith) in
      record {
        run = rw m.line_is (IsLine-append 0 L (x ∷ []) g.run (refl, omega arith, tt));
        within = rw (m.line_is, end_of-append) (omega arith);
        count = g.count;
        first = g.first;
        ordered = g.ordered;
        older = g.older;
        ends = rw m.line_is (IsEnd-append 0 L (x ∷ []) (agreed set h i) g.ends);
        base_ends = λ c le. rw m.line_is (IsEnd-append 0 L (x ∷ []) (base set h i c) (g.base_ends c le));
        made = λ c le. subst (λ ys. IsLine (base set h i c) (made_by i c ys)) (sym m.sent_is)
            (⊎_elim (λ (e : inc set h i ≡ c). subst (λ (k : ℕ). IsLine (base set h i k) (made_by i k (sent set h ++ x ∷ []))) e
            (subst (IsLine b) (sym new_made) (IsLine-append b M (x ∷ []) (g.made (inc set h i) (omega arith)) (sym ends, omega arith, tt))))
            (λ (ne : inc set h i ≢ c). subst (IsLine (base set h i c)) (sym (made_by-push i c (sent set h) x ∙ cond-false (is_of i c x) _ _ (and_right _ _ (ne_eqb (inc set h i) c ne)))) (g.made c le))
            (cases_eq (inc set h i) c));
        later = λ s k e. ⊎_elim (λ (o : has (sent set h) s ≡ true). g.later s o e)
            (λ (t : same_stamp x s ≡ true). let same : inc set h i ≡ s.inc.0 = ap (λ (y : Stamp). y.inc.0) (same_from_test x s t) in omega arith)
            (or_cases _ _ (sym (has-push (sent set h) x s) ∙ (ap (λ ys. has ys s) (sym m.sent_is) ∙ k)));
        sizes = λ s k e. ⊎_elim (λ (o : has (sent set h) s ≡ true). g.sizes s o e) (sized s)
            (or_cases _ _ (sym (has-push (sent set h) x s) ∙ (ap (λ ys. has ys s) (sym m.sent_is) ∙ k)));
        split = m.line_is ∙ (ap (λ ys. ys ++ x ∷ []) g.split ∙ (append_assoc (upto b L) M (x ∷ [])
            ∙ (ap (λ ys. ys ++ (M ++ x ∷ [])) (sym (ap (upto b) m.line_is ∙ upto-append b L (x ∷ []) out)) ∙ ap (λ ys. upto b (line set (event.Stamp (record { 0 = j }) n ∷ h) i) ++ ys) (sym (ap (made_by i (inc set h i)) m.sent_is ∙ new_made)))));
        places = λ s k. ⊎_elim (λ (o : has L s ≡ true). let old = g.places s o in
            record { made = sent-grows set h (event.Stamp (record { 0 = j }) n) s old.made; ingest = old.ingest; began = old.began; begins = old.begins; ends = old.ends })
            (in_line s)
            (or_cases _ _ (sym (has-push L x s) ∙ (ap (λ ys. has ys s) (sym m.line_is) ∙ k)));
        acks = λ p lt. subst (λ ys. agreed set h i ≤ ack_of (reported set h p) ys) (sym m.line_is)
            (subst (λ ys. agreed set h i ≤ end_of 0 ys) (sym (front_in-fresh (reported set h p) L x (not_in (reported set h p) x (reported-sent set h p) (fresh h j n i some m g)))) (g.acks p lt));
      }
    where
      not_in : (D : List Stamp) (x : Stamp) → ((s : Stamp) → has D s ≡ true → has (sent set h) s ≡ true) → has (sent set h) x ≡ false → has D x ≡ false
      not_in D x among f = false_from_ne_true _ (λ d. both_ways _ f (among x d))

  sound-stays : (h : List Event) (j i : ℕ) → Stays set h j i → IsSound h i → IsSound (event.Restart (record { 0 = j }) ∷ h) i
  sound-stays h j i q g = record {
    run = rw q.line_is g.run;
    within = rw q.line_is g.within;
    count = rw (q.bases_is, q.inc_is) g.count;
    first = rw q.bases_is g.first;
    ordered = rw (q.bases_is, q.inc_is) g.ordered;
    older = rw (q.bases_is, q.inc_is) g.older;
    ends = rw q.line_is g.ends;
    base_ends = rw (q.line_is, q.bases_is, q.inc_is) g.base_ends;
    made = rw (q.bases_is, q.inc_is) g.made;
    later = rw q.inc_is g.later;
    sizes = g.sizes;
    split = rw (q.line_is, q.bases_is, q.inc_is) g.split;
    places = rw (q.line_is, q.bases_is) g.places;
    acks = λ p lt. rw q.line_is (g.acks p lt);
  }

  -- what the bases are after a node comes back
  pub old_base : (h : List Event) (j i c : ℕ) → Back set h j i → IsSound h i → c ≤ inc set h i → base set (event.Restart (record { 0 = j }) ∷ h) i c ≡ base set h i c
  old_base h j i c b g le = ap (λ ys. get_or ys c 0) b.bases_is ∙ get_or_append_left (bases set h i) (agreed set h i ∷ []) 0 c (let n = g.count in omega arith)

  pub new_base : (h : List Event) (j i : ℕ) → Back set h j i → IsSound h i → base set (event.Restart (record { 0 = j }) ∷ h) i (inc set h i + 1) ≡ agreed set h i
  new_base h j i b g = ap (λ ys. get_or ys (inc set h i + 1) 0) b.bases_is ∙ get_or_push (bases set h i) (agreed set h i) 0 (inc set h i + 1) g.count

  -- what holds of each base, and of the agreed position as the next one, holds of each base after a node comes back
  each_base : (h : List Event) (j i : ℕ) (P : ℕ → ℕ → Type 0) → Back set h j i → IsSound h i → ((c : ℕ) → c ≤ inc set h i → P c (base set h i c)) → P (inc set h i + 1) (agreed set h i) →
      (c : ℕ) → c ≤ inc set (event.Restart (record { 0 = j }) ∷ h) i → P c (base set (event.Restart (record { 0 = j }) ∷ h) i c)
  each_base h j i P b g below at c le =
      ⊎_elim (λ (old : c < inc set h i + 1). subst (P c) (sym (old_base h j i c b g (omega arith))) (below c (omega arith)))
      (λ (top : inc set h i + 1 ≤ c). let e = b.inc_is in let same : inc set h i + 1 ≡ c = omega arith in
      subst (λ (m : ℕ). P m (base set (event.Restart (record { 0 = j }) ∷ h) i m)) same (subst (P (inc set h i + 1)) (sym (new_base h j i b g)) at))
      (cases_lt c (inc set h i + 1))

  sound-back : (h : List Event) (j i : ℕ) → Back set h j i → IsSound h i → IsSound (event.Restart (record { 0 = j }) ∷ h) i
  sound-back h j i b g =
      let a = agreed set h i in
      let L = line set h i in
      let old_bases = bases set h i in
      let new_bases = bases set (event.Restart (record { 0 = j }) ∷ h) i in
      let at_end = upto-end 0 a L g.run g.ends in
      let new = new_base h j i b g in
      let count = g.count in
      let grown : length new_bases ≡ length old_bases + 1 = ap length b.bases_is ∙ length_push old_bases a in
      let at_agreed : IsEnd 0 (upto a L) a = upto-ends 0 a a L g.run g.ends (omega arith) in
      let older : (c : ℕ) → c ≤ inc set (event.Restart (record { 0 = j }) ∷ h) i → get_or new_bases c 0 ≤ a = each_base h j i (λ _ m. m ≤ a) b g g.older (omega arith) in
      let none : made_by i (inc set h i + 1) (sent set h) ≡ [] = nil_from_has _ (λ s k.
      let parts = and_parts _ _ (sym (has-made i (inc set h i + 1) (sent set h) s) ∙ k) in
      let ids = and_parts _ _ parts.1 in
      let le = g.later s parts.0 (eqb-true _ _ ids.0) in
      let e = eqb-true _ _ ids.1 in
      omega arith) in
      record {
        run = rw b.line_is (upto-line 0 a L g.run);
        within = rw b.line_is (let w = g.within in let l = end_within 0 L a g.run g.ends in omega arith);
        count = grown ∙ (ap (λ (m : ℕ). m + 1) g.count ∙ ap (λ (m : ℕ). m + 1) (sym b.inc_is));
        first = old_base h j i 0 b g (omega arith) ∙ g.first;
        ordered = λ c d le within. each_base h j i (λ d m. c ≤ d → get_or new_bases c 0 ≤ m) b g
            (λ d d_le c_le. subst (λ (m : ℕ). m ≤ base set h i d) (sym (old_base h j i c b g (omega arith))) (g.ordered c d c_le d_le)) (λ _. older c (omega arith)) d within le;
        older = older;
        ends = rw b.line_is at_agreed;
        base_ends = rw b.line_is (each_base h j i (λ _ m. IsEnd 0 (upto a L) m) b g (λ c le. upto-ends 0 a (base set h i c) L g.run (g.base_ends c le) (g.older c le)) at_agreed);
        made = each_base h j i (λ c m. IsLine m (made_by i c (sent set h))) b g g.made (subst (IsLine a) (sym none) tt);
        later = λ s k e. let le = g.later s k e in let n = b.inc_is in omega arith;
        sizes = g.sizes;
        split = b.line_is ∙ (sym (append-nil (upto a L)) ∙ (ap (λ ys. ys ++ []) (sym (upto-upto a a L (omega arith)) ∙ (ap (upto a) (sym b.line_is) ∙ ap (λ (m : ℕ). upto m (line set (event.Restart (record { 0 = j }) ∷ h) i)) (sym new)))
            ∙ (ap (λ ys. upto (base set (event.Restart (record { 0 = j }) ∷ h) i (inc set h i + 1)) (line set (event.Restart (record { 0 = j }) ∷ h) i) ++ ys) (sym none)
            ∙ ap (λ (m : ℕ). upto (base set (event.Restart (record { 0 = j }) ∷ h) i m) (line set (event.Restart (record { 0 = j }) ∷ h) i) ++ made_by i m (sent set h)) (sym b.inc_is))));
        places = λ s k.
            let there = upto-has a L s (ap (λ ys. has ys s) (sym b.line_is) ∙ k) in
            let old = g.places s there.0 in
            let began = old.began in
            let low : s.to ≤ a = there.1 in
            let raised = b.inc_is in
            record {
              made = old.made;
              ingest = old.ingest;
              began = omega arith;
              begins = subst (λ (m : ℕ). m ≤ s.from) (sym (old_base h j i s.inc.0 b g (omega arith))) old.begins;
              ends = λ lt. each_base h j i (λ d m. d ≡ s.inc.0 + 1 → s.to ≤ m) b g (λ d le same. subst (λ (m : ℕ). s.to ≤ base set h i m) (sym same) (old.ends (omega arith))) (λ _. low) (s.inc.0 + 1) (omega arith) refl;
            };
        acks = λ p lt. subst (λ ys. a ≤ ack_of (reported set h p) ys) (sym b.line_is) (let e = ack-cut (reported set h p) 0 a L g.run g.ends (g.acks p lt) in omega arith);
      }

  pub sound : (h : List Event) (i : ℕ) → 0 < set.parts → IsHistory set h → IsSound h i
  sound [] i some legal = record {
    run = tt;
    within = omega arith;
    count = refl;
    first = refl;
    ordered = λ c d le within. subst (λ (m : ℕ). m ≤ get_or (0 ∷ []) d 0) (sym (zero_base c)) (omega arith);
    older = λ c le. subst (λ (m : ℕ). m ≤ 0) (sym (zero_base c)) (omega arith);
    ends = refl;
    base_ends = λ c le. zero_base c;
    made = λ c le. tt;
    later = λ s k e. absurd (false≢true k);
    sizes = λ s k e. absurd (false≢true k);
    split = refl;
    places = λ s k. absurd (false≢true k);
    acks = λ p lt. omega arith;
  }
    where
      zero_base : (c : ℕ) → ◌≡◌ {A = ℕ} (get_or (0 ∷ []) c 0) 0
      zero_base zero = refl
      zero_base (suc c) = refl
  sound (event.Stamp j n ∷ h) i some legal = let g = sound h i some legal.1 in ⊎_elim (λ q. sound-quiet h j.0 n i q g) (λ m. sound-made h j.0 n i legal.0.1 legal.0.2 m g) (stamps set h j.0 n i)
  sound (event.Report q ∷ h) i some legal = let g = sound h i some legal.1 in
      record {
        run = g.run;
        within = g.within;
        count = g.count;
        first = g.first;
        ordered = g.ordered;
        older = g.older;
        ends = g.ends;
        base_ends = g.base_ends;
        made = g.made;
        later = g.later;
        sizes = g.sizes;
        split = g.split;
        places = g.places;
        acks = λ p lt. cond_both (eqb q.0 p) (delivered set h p) (reported set h p) (λ ys. agreed set h i ≤ end_of 0 (front_in ys (line set h i)))
            (λ _. let a = g.acks p lt in let grows = front-grows (reported set h p) (delivered set h p) 0 (line set h i) g.run (reported-delivered set h p) in omega arith) (λ _. g.acks p lt);
      }
  sound (event.Raise j ∷ h) i some legal = let g = sound h i some legal.1 in
      let f = λ (p : ℕ). ack set h p i in
      let le : agreed set h i ≤ least_ack set h i = least-ge (ack set h 0 i) set.parts f (agreed set h i) (g.acks 0 some) g.acks in
      record {
        run = g.run;
        within = g.within;
        count = g.count;
        first = g.first;
        ordered = g.ordered;
        older = λ c c_le. let a = g.older c c_le in cond_both (eqb j.0 i) (least_ack set h i) (agreed set h i) (λ (m : ℕ). base set h i c ≤ m) (λ _. omega arith) (λ _. a);
        ends = cond_both (eqb j.0 i) (least_ack set h i) (agreed set h i) (IsEnd 0 (line set h i))
            (λ _. least-end 0 (line set h i) (ack set h 0 i) set.parts f (front-end (reported set h 0) 0 (line set h i)) (λ p _. front-end (reported set h p) 0 (line set h i))) (λ _. g.ends);
        base_ends = g.base_ends;
        made = g.made;
        later = g.later;
        sizes = g.sizes;
        split = g.split;
        places = g.places;
        acks = λ p lt. cond_both (eqb j.0 i) (least_ack set h i) (agreed set h i) (λ (m : ℕ). m ≤ ack set h p i) (λ _. least-le (ack set h 0 i) set.parts f p lt) (λ _. g.acks p lt);
      }
  sound (event.Restart j ∷ h) i some legal = let g = sound h i some legal.1 in ⊎_elim (λ q. sound-stays h j.0 i q g) (λ b. sound-back h j.0 i b g) (restarts set h j.0 i)
  sound (_ ∷ h) i some legal = let g = sound h i some legal.1 in
      record {
        run = g.run;
        within = g.within;
        count = g.count;
        first = g.first;
        ordered = g.ordered;
        older = g.older;
        ends = g.ends;
        base_ends = g.base_ends;
        made = g.made;
        later = g.later;
        sizes = g.sizes;
        split = g.split;
        places = g.places;
        acks = g.acks;
      }
