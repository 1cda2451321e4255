-- The drain goes on event by event until every cut is committed and mined.
use Rattle.std.proofs.Common.{◌≡◌, ◌≢◌, ℕ, zero, suc, ◌+◌, ◌-◌, ◌<◌, ◌≤◌, eqb, leb, ltb, ◌&&◌, ◌||◌, ◌⊎◌, inl, inr, ⊎_elim, List, [], ◌∷◌, ◌++◌, Option, Some, None, refl, sym, ◌∙◌, ap, subst, arith}
use Rattle.std.specs.Prelude.{All, replicate}
use Rattle.std.proofs.lemmas.Bool.{cond-true, cond-false, cond_both, and_from, and_left, or_right, le-ltb, cases_lt, eq-eqb, ne_eqb, cases_eq, leb-true, leb-false, lt-ltb, le-leb}
use Rattle.std.proofs.lemmas.List.Elements.{All-nil, All-cons}
use Rattle.kin_script.specs.declared.events.Event.{Event}
use Rattle.kin_script.specs.declared.events.Event.TheVariants as event
use Rattle.kin_script.specs.declared.outcomes.Outcome.TheVariants as outcome
use Rattle.kin_history.specs.Setting.{Setting, IsEvent, IsHistory, after}
use Rattle.kin_history.specs.Vectors.{cuts, committed, uncommitted_part}
use Rattle.kin_history.specs.Mining.{not_committed, is_clear, held_back, mined, is_open}
use Rattle.kin_history.specs.Outcomes.{mine_answer, outcome_of, outcomes}
use Rattle.kin_history.specs.Drain.{drain_commits, drain, drain_event, next_of_drain}
use Rattle.kin_history.specs.Laws.{IsAccepted}
use Rattle.kin_history.specs.MiningLaws.{drain_by, IsNextOfDrain, IsDrain, IsDrained}
use Rattle.kin_history.proofs.Firsts.{first-some, first-none, none-first}
use Rattle.kin_history.proofs.Mined.{mined-order}

-- one less of a difference above 0 is one less of the list
replicate-step : (a b : ℕ) (e : Event) → b < a → replicate (a - b) e ≡ e ∷ replicate (a - (b + 1)) e
replicate-step a b e lt = let same : a - b ≡ suc (a - (b + 1)) = omega arith in ap (λ (n : ℕ). replicate n e) same

replicate-none : (a b : ℕ) (e : Event) → a ≤ b → replicate (a - b) e ≡ []
replicate-none a b e le = let same : a - b ≡ 0 = omega arith in ap (λ (n : ℕ). replicate n e) same

module _ (set : Setting) where
  abbrev commit_of : ℕ → Event
  commit_of p = event.Commit (record { 0 = p })

  commits-none : (h : List Event) (n : ℕ) → ((q : ℕ) → q < n → cuts set h ≤ committed set h q) → drain_commits set h n ≡ []
  commits-none h zero done = refl
  commits-none h (suc n) done = rw (commits-none h n (λ q lt. done q (omega arith)), replicate-none (cuts set h) (committed set h n) (commit_of n) (done n (omega arith))) refl

  committed-other : (h : List Event) (p q : ℕ) → p ≢ q → committed set (commit_of p ∷ h) q ≡ committed set h q
  committed-other h p q ne = cond-false (eqb p q && ltb (committed set h q) (cuts set h)) _ _ (and_left _ _ (ne_eqb p q ne))

  committed-one : (h : List Event) (p : ℕ) → committed set h p < cuts set h → committed set (commit_of p ∷ h) p ≡ committed set h p + 1
  committed-one h p lt = cond-true (eqb p p && ltb (committed set h p) (cuts set h)) _ _ (and_from _ _ (eq-eqb p p refl) (lt-ltb _ _ lt))

  -- the least partition with an uncommitted cut commits, and the rest of the commits is what is left afterwards
  commits-step : (h : List Event) (p n : ℕ) → committed set h p < cuts set h → ((q : ℕ) → q < p → cuts set h ≤ committed set h q) → p < n → drain_commits set h n ≡ commit_of p ∷ drain_commits set (commit_of p ∷ h) n
  commits-step h p zero lt done p_lt = absurd (omega arith)
  commits-step h p (suc n) lt done p_lt =
      ⊎_elim (λ (e : p ≡ n). subst (λ (m : ℕ). drain_commits set h (suc m) ≡ commit_of p ∷ drain_commits set (commit_of p ∷ h) (suc m)) e here)
      (λ (ne : p ≢ n). rw (commits-step h p n lt done (omega arith), committed-other h p n ne) refl)
      (cases_eq p n)
    where
      here : drain_commits set h (suc p) ≡ commit_of p ∷ drain_commits set (commit_of p ∷ h) (suc p)
      here =
          let before : drain_commits set h p ≡ [] = commits-none h p done in
          let now : drain_commits set (commit_of p ∷ h) p ≡ [] = commits-none (commit_of p ∷ h) p (λ q less. let d = done q less in let same = committed-other h p q (λ (e : p ≡ q). omega arith) in omega arith) in
          rw (before, now, committed-one h p lt) (replicate-step (cuts set h) (committed set h p) (commit_of p) lt)

  -- nothing is left
  pub record Ends (h : List Event) : Type 0 where
    pub next : next_of_drain set h ≡ None
    pub is : drain set h ≡ []
    pub each : (p : ℕ) → p < set.parts → cuts set h ≤ committed set h p
    pub all : cuts set h ≤ mined set h

  -- or one event is next
  pub record Goes (h : List Event) : Type 0 where
    pub event : Event
    pub next : next_of_drain set h ≡ Some event
    pub is : drain set h ≡ event ∷ drain set (event ∷ h)
    pub no_cut : cuts set (event ∷ h) ≡ cuts set h
    pub in_range : IsEvent set event
    pub accepted : IsAccepted (outcome_of set h event)

  commit-goes : (h : List Event) (p : ℕ) → uncommitted_part set h (cuts set h) ≡ Some p → Goes h
  commit-goes h p e =
      let first = first-some 0 set.parts (λ q. leb (cuts set h) (committed set h q)) p e in
      let within = first.lt in
      let lt : committed set h p < cuts set h = leb-false _ _ first.fails in
      record {
        event = commit_of p;
        next = ap (λ o. drain_event o (ltb (mined set h) (cuts set h))) e;
        is = ap (λ es. es ++ replicate (cuts set h - mined set h) event.Mine) (commits-step h p set.parts lt (λ q less. leb-true _ _ (first.before q (omega arith) less)) (omega arith));
        no_cut = refl;
        in_range = omega arith;
        accepted = subst IsAccepted (sym (cond-true (ltb (committed set h p) (cuts set h)) _ _ (lt-ltb _ _ lt))) tt;
      }

  all-committed : (h : List Event) → uncommitted_part set h (cuts set h) ≡ None → (p : ℕ) → p < set.parts → cuts set h ≤ committed set h p
  all-committed h e p lt = leb-true _ _ (first-none 0 set.parts (λ q. leb (cuts set h) (committed set h q)) e p (omega arith) (omega arith))

  mine-goes : (h : List Event) → uncommitted_part set h (cuts set h) ≡ None → mined set h < cuts set h → Goes h
  mine-goes h e lt =
      let all = all-committed h e in
      let none_left : uncommitted_part set h (mined set h + 1) ≡ None = none-first 0 set.parts (λ q. leb (mined set h + 1) (committed set h q)) (λ p le p_lt. le-leb _ _ (let done = all p (omega arith) in omega arith)) in
      let clear : held_back set h (mined set h + 1) ≡ None = cond-false (ltb (cuts set h) (mined set h + 1)) _ _ (le-ltb _ _ (omega arith)) ∙ ap not_committed none_left in
      let more : mined set (event.Mine ∷ h) ≡ mined set h + 1 = cond-true (is_open set h || is_clear (held_back set h (mined set h + 1))) _ _ (or_right _ _ (ap is_clear clear)) in
      let before : drain_commits set h set.parts ≡ [] = commits-none h set.parts all in
      record {
        event = event.Mine;
        next = ap (λ o. drain_event o (ltb (mined set h) (cuts set h))) e ∙ ap (drain_event None) (lt-ltb _ _ lt);
        is = rw (before, more) (replicate-step (cuts set h) (mined set h) event.Mine lt);
        no_cut = refl;
        in_range = tt;
        accepted = cond_both (is_open set h) (outcome.Mined (record { 0 = mined set h + 1 })) (mine_answer (mined set h + 1) (held_back set h (mined set h + 1))) IsAccepted (λ _. tt) (λ _. subst (λ o. IsAccepted (mine_answer (mined set h + 1) o)) (sym clear) tt);
      }

  drain-ends : (h : List Event) → uncommitted_part set h (cuts set h) ≡ None → cuts set h ≤ mined set h → Ends h
  drain-ends h e le =
      let all = all-committed h e in
      record {
        next = ap (λ o. drain_event o (ltb (mined set h) (cuts set h))) e ∙ ap (drain_event None) (le-ltb _ _ le);
        is = rw (commits-none h set.parts all) (replicate-none (cuts set h) (mined set h) event.Mine le);
        each = all;
        all = le;
      }

  pub drain_views : (h : List Event) → Ends h ⊎ Goes h
  drain_views h = go (uncommitted_part set h (cuts set h)) refl
    where
      go : (o : Option ℕ) → uncommitted_part set h (cuts set h) ≡ o → Ends h ⊎ Goes h
      go (Some p) e = inr (commit-goes h p e)
      go None e = ⊎_elim (λ (lt : mined set h < cuts set h). inr (mine-goes h e lt)) (λ (le : cuts set h ≤ mined set h). inl (drain-ends h e le)) (cases_lt (mined set h) (cuts set h))

  pub drain-is : (h : List Event) → IsDrain set h
  drain-is h = ⊎_elim
      (λ (done : Ends h). record { is = done.is ∙ ap (drain_by set h) (sym done.next); next = subst (IsNextOfDrain set h) (sym done.next) tt })
      (λ (more : Goes h). record { is = more.is ∙ ap (drain_by set h) (sym more.next); next = subst (IsNextOfDrain set h) (sym more.next) (more.in_range, more.accepted) })
      (drain_views h)

  -- where the drain comes to, by the list of its events
  drained-by : (es : List Event) (h : List Event) → drain set h ≡ es → IsDrained set h
  drained-by [] h e = ⊎_elim
      (λ (done : Ends h).
      let m = mined-order set h in
      let at : after h (drain set h) ≡ h = ap (after h) done.is in
      let least = done.all in
      let most = m.cut in
      record {
        no_cut = ap (cuts set) at;
        each = λ p lt. let low = done.each p lt in let high = m.within p in ap (λ g. committed set g p) at ∙ omega arith;
        all = ap (mined set) at ∙ omega arith;
        accepted = subst (λ es. All IsAccepted (outcomes set h es)) (sym done.is) (All-nil IsAccepted);
        legal = λ legal. subst (IsHistory set) (sym at) legal;
      })
      (λ (more : Goes h). let never : more.event ∷ drain set (more.event ∷ h) ≡ [] = sym more.is ∙ e in absurd cc)
      (drain_views h)
  drained-by (x ∷ es) h e = ⊎_elim
      (λ (done : Ends h). let never : x ∷ es ≡ [] = sym e ∙ done.is in absurd cc)
      (λ (more : Goes h).
      let same : more.event ∷ drain set (more.event ∷ h) ≡ x ∷ es = sym more.is ∙ e in
      let ih = drained-by es (more.event ∷ h) cc in
      let at : after h (drain set h) ≡ after (more.event ∷ h) (drain set (more.event ∷ h)) = ap (after h) more.is in
      record {
        no_cut = ap (cuts set) at ∙ (ih.no_cut ∙ more.no_cut);
        each = λ p lt. ap (λ g. committed set g p) at ∙ (ih.each p lt ∙ more.no_cut);
        all = ap (mined set) at ∙ (ih.all ∙ more.no_cut);
        accepted = subst (λ es. All IsAccepted (outcomes set h es)) (sym more.is) (All-cons IsAccepted (outcome_of set h more.event) (outcomes set (more.event ∷ h) (drain set (more.event ∷ h))) more.accepted ih.accepted);
        legal = λ legal. subst (IsHistory set) (sym at) (ih.legal (more.in_range, legal));
      })
      (drain_views h)

  pub drained : (h : List Event) → IsDrained set h
  drained h = drained-by (drain set h) h refl
