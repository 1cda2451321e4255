-- What events answer, and why.
use Rattle.std.proofs.Common.{◌≡◌, ℕ, ◌+◌, ◌<◌, ◌≤◌, Bool, true, false, cond, eqb, leb, ltb, ◌&&◌, ◌↔◌, ◌⊎◌, inl, inr, ⊎_elim, List, [], ◌∷◌, Option, Some, None, refl, sym, ◌∙◌, ap, subst, arith, not}
use Rattle.std.proofs.lemmas.Bool.{cases_lt, cond_both, cond-true, cond-false, false≢true, and_from, and_parts, or_cases, eqb-true, eqb-false, eq-eqb, both_ways, ltb-true, ltb-false, leb-true, leb-false}
use Rattle.std.proofs.lemmas.Option.{none-some}
use Rattle.kin_ids.specs.declared.ids.IngestId.{IngestId}
use Rattle.kin_ids.specs.declared.ids.PartId.{PartId}
use Rattle.kin_ids.specs.declared.ids.Epoch.{Epoch}
use Rattle.kin_ids.specs.declared.ids.Inc.{Inc}
use Rattle.kin_ids.specs.declared.ids.User.{User}
use Rattle.kin_ids.specs.declared.stamps.Stamp.{Stamp}
use Rattle.kin_ids.specs.Lines.{IsLine, same_stamp, has, find_stamp, made_by}
use Rattle.kin_ids.proofs.Lines.{same_from_test, lies, has-made}
use Rattle.kin_script.specs.declared.events.Event.{Event}
use Rattle.kin_script.specs.declared.outcomes.Outcome.{Outcome}
use Rattle.kin_script.specs.declared.outcomes.Refusal.{Refusal}
use Rattle.kin_script.specs.declared.events.Event.TheVariants as event
use Rattle.kin_script.specs.declared.outcomes.Outcome.TheVariants as outcome
use Rattle.kin_script.specs.declared.outcomes.Refusal.TheVariants as refusal
use Rattle.kin_history.specs.Setting.{Setting, feed_len, IsHistory}
use Rattle.kin_history.specs.Lines.{comes_back, up, inc, next, sent, delivered, base, agreed, least_ack, seen, top, has_reported}
use Rattle.kin_history.specs.Vectors.{unreported_part, uncommitted_part, cuts, committed}
use Rattle.kin_history.specs.Mining.{not_committed, held_back, mined, is_open}
use Rattle.kin_history.specs.Outcomes.{cut_answer, begin_answer, mine_answer, delivery, outcome_of}
use Rattle.kin_history.specs.AnswerLaws.{StampAnswers, IsSent, DeliverRefused, DeliverAnswers, RaiseAnswers, IsFirstUnreported, CutAnswers, CommitAnswers, IsFirstUncommitted, IsNextReady, BeginAnswers, MineAnswers, TurnAnswers, CrashAnswers, RestartAnswers}
use Rattle.kin_history.proofs.Made.{IsFound, found, new_stamp}
use Rattle.kin_history.proofs.Firsts.{first-some, first-none}
use Rattle.kin_history.proofs.Mined.{mined-order}
use Rattle.kin_history.proofs.Sound.{sound}
use Rattle.kin_history.proofs.Seen.{agreed-least}

-- epochs, partitions and incarnations are their numbers
abbrev epoch : ℕ → Epoch
epoch n = record { 0 = n }

abbrev part : ℕ → PartId
part n = record { 0 = n }

abbrev incarnation : ℕ → Inc
incarnation n = record { 0 = n }

epoch-is : (k : Epoch) (n : ℕ) → k.0 ≡ n → epoch n ≡ k
epoch-is k n e = ap epoch (sym e)

part-is : (p : PartId) (n : ℕ) → p.0 ≡ n → part n ≡ p
part-is p n e = ap part (sym e)

inc-is : (c : Inc) (n : ℕ) → c.0 ≡ n → incarnation n ≡ c
inc-is c n e = ap incarnation (sym e)

-- a stamp that is made as told is found
missing : (ss : List Stamp) (i c to : ℕ) (s : Stamp) → find_stamp ss i c to ≡ None → IsFound ss i c to s → ⊥
missing [] i c to s e k = false≢true k.made
missing (x ∷ ss) i c to s e k = go (missing ss i c to s) ((eqb x.ingest.0 i && eqb x.inc.0 c) && eqb x.to to) refl e
  where
    go : (find_stamp ss i c to ≡ None → IsFound ss i c to s → ⊥) → (b : Bool) → ((eqb x.ingest.0 i && eqb x.inc.0 c) && eqb x.to to) ≡ b → cond b (Some x) (find_stamp ss i c to) ≡ None → ⊥
    go ih true t e = none-some x (sym e)
    go ih false t e =
        ⊎_elim (λ (same : same_stamp x s ≡ true).
        let is : x ≡ s = same_from_test x s same in
        both_ways _ t (and_from _ _ (and_from _ _ (eq-eqb _ _ (ap (λ (y : Stamp). y.ingest.0) is ∙ k.ingest)) (eq-eqb _ _ (ap (λ (y : Stamp). y.inc.0) is ∙ k.inc))) (eq-eqb _ _ (ap (λ (y : Stamp). y.to) is ∙ k.to))))
        (λ (later : has ss s ≡ true). ih e (record { made = later; ingest = k.ingest; inc = k.inc; to = k.to }))
        (or_cases _ _ k.made)

-- two stamps of a line that end at one position are one
only_to : (at : ℕ) (ss : List Stamp) (s t : Stamp) → IsLine at ss → has ss s ≡ true → has ss t ≡ true → s.to ≡ t.to → s ≡ t
only_to at [] s t l h k e = absurd (false≢true h)
only_to at (x ∷ ss) s t l h k e =
    ⊎_elim (λ (p : same_stamp x s ≡ true).
    ⊎_elim (λ (q : same_stamp x t ≡ true). sym (same_from_test x s p) ∙ same_from_test x t q)
    (λ (q : has ss t ≡ true).
    let there = lies x.to ss t l.2 q in
    let from = there.from in
    let some = there.some in
    let same : x.to ≡ s.to = ap (λ (y : Stamp). y.to) (same_from_test x s p) in
    absurd (omega arith))
    (or_cases (same_stamp x t) (has ss t) k))
    (λ (p : has ss s ≡ true).
    ⊎_elim (λ (q : same_stamp x t ≡ true).
    let there = lies x.to ss s l.2 p in
    let from = there.from in
    let some = there.some in
    let same : x.to ≡ t.to = ap (λ (y : Stamp). y.to) (same_from_test x t q) in
    absurd (omega arith))
    (λ (q : has ss t ≡ true). only_to x.to ss s t l.2 p q e)
    (or_cases (same_stamp x t) (has ss t) k))
    (or_cases (same_stamp x s) (has ss s) h)

-- no incarnation is past the last one
pub last-inc : (set : Setting) (h : List Event) (i : ℕ) → inc set h i ≤ 65535
last-inc set [] i = omega arith
last-inc set (event.Restart j ∷ h) i =
    let most = last-inc set h i in
    cond_both (eqb j.0 i && comes_back (up set h i) (inc set h i)) (inc set h i + 1) (inc set h i) (λ (c : ℕ). c ≤ 65535)
    (λ t. let lt : inc set h i < 65535 = ltb-true (inc set h i) 65535 (and_parts (not (up set h i)) _ (and_parts _ _ t).1).1 in omega arith) (λ _. most)
last-inc set (_ ∷ h) i = last-inc set h i

module _ (set : Setting) (h : List Event) where
  pub stamp-answers : (j : IngestId) (n : ℕ) → StampAnswers set h j n
  stamp-answers j n = go (up set h j.0) refl (eqb (next set h j.0) (feed_len set j.0)) refl
    where
      go : (u : Bool) → up set h j.0 ≡ u → (x : Bool) → eqb (next set h j.0) (feed_len set j.0) ≡ x → StampAnswers set h j n
      go false t x e =
          let is : outcome_of set h (event.Stamp j n) ≡ outcome.Refused refusal.Down = cond-true (not (up set h j.0)) _ _ (ap not t) in
          record {
            down = (λ _. t, λ _. is);
            exhausted = (λ a. absurd cc, λ c. absurd (both_ways _ t c.0));
            stamped = λ s. (λ a. absurd cc, λ c. absurd (both_ways _ t c.0));
          }
      go true t true e =
          let is : outcome_of set h (event.Stamp j n) ≡ outcome.Refused refusal.Exhausted = cond-false (not (up set h j.0)) _ _ (ap not t) ∙ cond-true (eqb (next set h j.0) (feed_len set j.0)) _ _ e in
          record {
            down = (λ a. absurd cc, λ d. absurd (both_ways _ d t));
            exhausted = (λ _. (t, eqb-true _ _ e), λ _. is);
            stamped = λ s. (λ a. absurd cc, λ c. absurd (c.1 (eqb-true _ _ e)));
          }
      go true t false e =
          let is : outcome_of set h (event.Stamp j n) ≡ outcome.Stamped (new_stamp set h j.0 n) = cond-false (not (up set h j.0)) _ _ (ap not t) ∙ cond-false (eqb (next set h j.0) (feed_len set j.0)) _ _ e in
          record {
            down = (λ a. absurd cc, λ d. absurd (both_ways _ d t));
            exhausted = (λ a. absurd cc, λ c. absurd (eqb-false _ _ e c.1));
            stamped = λ s. (λ a. let same : s ≡ new_stamp set h j.0 n = cc in (t, eqb-false _ _ e, same), λ c. is ∙ ap outcome.Stamped (sym c.2));
          }

  pub crash-answers : (j : IngestId) → CrashAnswers set h j
  crash-answers j = go (up set h j.0) refl
    where
      go : (u : Bool) → up set h j.0 ≡ u → CrashAnswers set h j
      go false t =
          let is : outcome_of set h (event.Crash j) ≡ outcome.Refused refusal.Down = cond-true (not (up set h j.0)) _ _ (ap not t) in
          record { down = (λ _. t, λ _. is); crashed = (λ a. absurd cc, λ u. absurd (both_ways _ t u)) }
      go true t =
          let is : outcome_of set h (event.Crash j) ≡ outcome.Crashed = cond-false (not (up set h j.0)) _ _ (ap not t) in
          record { down = (λ a. absurd cc, λ d. absurd (both_ways _ d t)); crashed = (λ _. t, λ _. is) }

  pub turn-answers : (u : User) → TurnAnswers set h u
  turn-answers u = go (is_open set h) refl
    where
      go : (b : Bool) → is_open set h ≡ b → TurnAnswers set h u
      go false t =
          let is : outcome_of set h (event.Turn u) ≡ outcome.Refused refusal.NotBegun = cond-false (is_open set h) _ _ t in
          record { not_begun = (λ _. t, λ _. is); turned = (λ a. absurd cc, λ o. absurd (both_ways _ t o)) }
      go true t =
          let is : outcome_of set h (event.Turn u) ≡ outcome.Turned = cond-true (is_open set h) _ _ t in
          record { not_begun = (λ a. absurd cc, λ o. absurd (both_ways _ o t)); turned = (λ _. t, λ _. is) }

  pub commit-answers : (p : PartId) → CommitAnswers set h p
  commit-answers p = go (ltb (committed set h p.0) (cuts set h)) refl
    where
      go : (b : Bool) → ltb (committed set h p.0) (cuts set h) ≡ b → CommitAnswers set h p
      go false t =
          let within = (mined-order set h).within p.0 in
          let ge : cuts set h ≤ committed set h p.0 = ltb-false _ _ t in
          let is : outcome_of set h (event.Commit p) ≡ outcome.Refused refusal.NothingCut = cond-false (ltb (committed set h p.0) (cuts set h)) _ _ t in
          record { nothing_cut = (λ _. omega arith, λ _. is); committed = λ k. (λ a. absurd cc, λ c. let lt = c.0 in absurd (omega arith)) }
      go true t =
          let lt : committed set h p.0 < cuts set h = ltb-true _ _ t in
          let is : outcome_of set h (event.Commit p) ≡ outcome.Committed (record { 0 = committed set h p.0 + 1 }) = cond-true (ltb (committed set h p.0) (cuts set h)) _ _ t in
          record {
            nothing_cut = (λ a. absurd cc, λ e. absurd (omega arith));
            committed = λ k. (λ a. let same : k ≡ record { 0 = committed set h p.0 + 1 } = cc in (lt, ap (λ (k : Epoch). k.0) same), λ c. is ∙ ap outcome.Committed (epoch-is k (committed set h p.0 + 1) c.1));
          }

  pub restart-answers : (j : IngestId) → RestartAnswers set h j
  restart-answers j = go (up set h j.0) refl (ltb (inc set h j.0) 65535) refl
    where
      go : (u : Bool) → up set h j.0 ≡ u → (b : Bool) → ltb (inc set h j.0) 65535 ≡ b → RestartAnswers set h j
      go true t b e =
          let is : outcome_of set h (event.Restart j) ≡ outcome.Refused refusal.Up = cond-true (up set h j.0) _ _ t in
          record {
            is_up = (λ _. t, λ _. is);
            spent = (λ a. absurd cc, λ c. absurd (both_ways _ c.0 t));
            restarted = λ c base. (λ a. absurd cc, λ c. absurd (both_ways _ c.0 t));
          }
      go false t false e =
          let is : outcome_of set h (event.Restart j) ≡ outcome.Refused refusal.IncarnationsSpent = cond-false (up set h j.0) _ _ t ∙ cond-false (ltb (inc set h j.0) 65535) _ _ e in
          let ge = ltb-false _ _ e in
          let most = last-inc set h j.0 in
          record {
            is_up = (λ a. absurd cc, λ u. absurd (both_ways _ t u));
            spent = (λ _. (t, omega arith), λ _. is);
            restarted = λ c base. (λ a. absurd cc, λ c. let lt = c.1 in absurd (omega arith));
          }
      go false t true e =
          let is : outcome_of set h (event.Restart j) ≡ outcome.Restarted (record { 0 = inc set h j.0 + 1 }) (agreed set h j.0) = cond-false (up set h j.0) _ _ t ∙ cond-true (ltb (inc set h j.0) 65535) _ _ e in
          let lt : inc set h j.0 < 65535 = ltb-true _ _ e in
          record {
            is_up = (λ a. absurd cc, λ u. absurd (both_ways _ t u));
            spent = (λ a. absurd cc, λ c. let top = c.1 in absurd (omega arith));
            restarted = λ c base. (λ a. (t, lt, inc-shown c base (sym is ∙ a), base-shown c base (sym is ∙ a)), λ k. is ∙ back c base k.2 k.3);
          }
        where
          inc-shown : (c : Inc) (base : ℕ) → outcome.Restarted (record { 0 = inc set h j.0 + 1 }) (agreed set h j.0) ≡ outcome.Restarted c base → c.0 ≡ inc set h j.0 + 1
          inc-shown c base a = let same : c ≡ record { 0 = inc set h j.0 + 1 } = cc in ap (λ (c : Inc). c.0) same

          base-shown : (c : Inc) (base : ℕ) → outcome.Restarted (record { 0 = inc set h j.0 + 1 }) (agreed set h j.0) ≡ outcome.Restarted c base → base ≡ agreed set h j.0
          base-shown c base a = cc

          back : (c : Inc) (base : ℕ) → c.0 ≡ inc set h j.0 + 1 → base ≡ agreed set h j.0 → outcome.Restarted (record { 0 = inc set h j.0 + 1 }) (agreed set h j.0) ≡ outcome.Restarted c base
          back c base e f = rw (inc-is c (inc set h j.0 + 1) e, f) refl

  pub raise-answers : (j : IngestId) → 0 < set.parts → IsHistory set h → RaiseAnswers set h j
  raise-answers j some legal =
      let least = agreed-least set h j.0 some (sound set h j.0 some legal) in
      let now : agreed set (event.Raise j ∷ h) j.0 ≡ least_ack set h j.0 = cond-true (eqb j.0 j.0) _ _ (eq-eqb j.0 j.0 refl) in
      go least now (ltb (agreed set h j.0) (least_ack set h j.0)) refl
    where
      go : agreed set h j.0 ≤ least_ack set h j.0 → agreed set (event.Raise j ∷ h) j.0 ≡ least_ack set h j.0 → (b : Bool) → ltb (agreed set h j.0) (least_ack set h j.0) ≡ b → RaiseAnswers set h j
      go least now true e =
          let is : outcome_of set h (event.Raise j) ≡ outcome.Raised (least_ack set h j.0) = cond-true (ltb (agreed set h j.0) (least_ack set h j.0)) _ _ e in
          let lt = ltb-true _ _ e in
          record {
            raised = λ at. (λ a. let same : at ≡ least_ack set h j.0 = cc in (omega arith, omega arith), λ c. let to = c.1 in let same : least_ack set h j.0 ≡ at = omega arith in is ∙ ap outcome.Raised same);
            level = λ at. (λ a. absurd cc, λ c. let stays = c.0 in absurd (omega arith));
          }
      go least now false e =
          let is : outcome_of set h (event.Raise j) ≡ outcome.Level (agreed set h j.0) = cond-false (ltb (agreed set h j.0) (least_ack set h j.0)) _ _ e in
          let ge = ltb-false _ _ e in
          record {
            raised = λ at. (λ a. absurd cc, λ c. let rises = c.0 in absurd (omega arith));
            level = λ at. (λ a. let same : at ≡ agreed set h j.0 = cc in (omega arith, same), λ c. is ∙ ap outcome.Level (sym c.1));
          }

  -- what stands between the last mined epoch and the next
  record IsBehind : Type 0 where
    held : held_back set h (mined set h + 1) ≡ Some refusal.NothingCut
    all : mined set h ≡ cuts set h

  record IsWaiting : Type 0 where
    p : ℕ
    held : held_back set h (mined set h + 1) ≡ Some (refusal.NotCommitted (part p))
    cut : mined set h < cuts set h
    first : IsFirstUncommitted set h p

  record IsClear : Type 0 where
    held : held_back set h (mined set h + 1) ≡ None
    ready : IsNextReady set h

  next-epoch : IsBehind ⊎ (IsWaiting ⊎ IsClear)
  next-epoch = go (ltb (cuts set h) (mined set h + 1)) refl (uncommitted_part set h (mined set h + 1)) refl
    where
      go : (b : Bool) → ltb (cuts set h) (mined set h + 1) ≡ b → (o : Option ℕ) → uncommitted_part set h (mined set h + 1) ≡ o → IsBehind ⊎ (IsWaiting ⊎ IsClear)
      go true t o e =
          let few : cuts set h < mined set h + 1 = ltb-true _ _ t in
          let most = (mined-order set h).cut in
          inl (record { held = cond-true (ltb (cuts set h) (mined set h + 1)) _ _ t; all = omega arith })
      go false t (Some p) e =
          let more : mined set h + 1 ≤ cuts set h = ltb-false _ _ t in
          let first = first-some 0 set.parts (λ q. leb (mined set h + 1) (committed set h q)) p e in
          let lt = first.lt in
          let fails : committed set h p < mined set h + 1 = leb-false _ _ first.fails in
          inr (inl (record {
            p = p;
            held = cond-false (ltb (cuts set h) (mined set h + 1)) _ _ t ∙ ap not_committed e;
            cut = omega arith;
            first = record { part = omega arith; behind = omega arith; before = λ q less. let le : mined set h + 1 ≤ committed set h q = leb-true _ _ (first.before q (omega arith) less) in omega arith };
          }))
      go false t None e =
          let more : mined set h + 1 ≤ cuts set h = ltb-false _ _ t in
          inr (inr (record {
            held = cond-false (ltb (cuts set h) (mined set h + 1)) _ _ t ∙ ap not_committed e;
            ready = record { cut = omega arith; each = λ p lt. let le : mined set h + 1 ≤ committed set h p = leb-true _ _ (first-none 0 set.parts (λ q. leb (mined set h + 1) (committed set h q)) e p (omega arith) (omega arith)) in omega arith };
          }))

  -- the least uncommitted partition is one
  one-first : (p q : ℕ) → IsFirstUncommitted set h p → IsFirstUncommitted set h q → p ≡ q
  one-first p q a b =
      let behind_p = a.behind in
      let behind_q = b.behind in
      ⊎_elim (λ (lt : p < q). let more = b.before p lt in absurd (omega arith))
      (λ (ge : q ≤ p). ⊎_elim (λ (lt : q < p). let more = a.before q lt in absurd (omega arith)) (λ (le : p ≤ q). omega arith) (cases_lt q p)) (cases_lt p q)

  not-ready : (p : ℕ) → IsFirstUncommitted set h p → IsNextReady set h → ⊥
  not-ready p first ready = let behind = first.behind in let more = ready.each p first.part in absurd (omega arith)

  pub begin-answers : BeginAnswers set h
  begin-answers = go (is_open set h) refl next-epoch
    where
      is-held : (r : Option Refusal) → is_open set h ≡ false → held_back set h (mined set h + 1) ≡ r → outcome_of set h event.Begin ≡ begin_answer (mined set h + 1) r
      is-held r t e = cond-false (is_open set h) _ _ t ∙ ap (begin_answer (mined set h + 1)) e

      go : (b : Bool) → is_open set h ≡ b → IsBehind ⊎ (IsWaiting ⊎ IsClear) → BeginAnswers set h
      go true t _ =
          let is : outcome_of set h event.Begin ≡ outcome.Refused (refusal.Busy (epoch (mined set h + 1))) = cond-true (is_open set h) _ _ t in
          record {
            busy = λ k. (λ a. let same : k ≡ epoch (mined set h + 1) = cc in (t, ap (λ (k : Epoch). k.0) same), λ c. is ∙ ap (λ (k : Epoch). outcome.Refused (refusal.Busy k)) (epoch-is k (mined set h + 1) c.1));
            nothing_cut = (λ a. absurd cc, λ c. absurd (both_ways _ c.0 t));
            not_committed = λ p. (λ a. absurd cc, λ c. absurd (both_ways _ c.0 t));
            begun = λ k. (λ a. absurd cc, λ c. absurd (both_ways _ c.0 t));
          }
      go false t (inl b) =
          let is : outcome_of set h event.Begin ≡ outcome.Refused refusal.NothingCut = is-held (Some refusal.NothingCut) t b.held in
          let all = b.all in
          record {
            busy = λ k. (λ a. absurd cc, λ c. absurd (both_ways _ t c.0));
            nothing_cut = (λ _. (t, all), λ _. is);
            not_committed = λ p. (λ a. absurd cc, λ c. let lt = c.1 in absurd (omega arith));
            begun = λ k. (λ a. absurd cc, λ c. let lt = c.1.cut in absurd (omega arith));
          }
      go false t (inr (inl w)) =
          let is : outcome_of set h event.Begin ≡ outcome.Refused (refusal.NotCommitted (part w.p)) = is-held (Some (refusal.NotCommitted (part w.p))) t w.held in
          let cut = w.cut in
          record {
            busy = λ k. (λ a. absurd cc, λ c. absurd (both_ways _ t c.0));
            nothing_cut = (λ a. absurd cc, λ c. let all = c.1 in absurd (omega arith));
            not_committed = λ p. (
              λ a. let same : part w.p ≡ p = cc in (t, cut, subst (λ (p : PartId). IsFirstUncommitted set h p.0) same w.first),
              λ c. is ∙ ap (λ (p : PartId). outcome.Refused (refusal.NotCommitted p)) (part-is p w.p (one-first p.0 w.p c.2 w.first)),
            );
            begun = λ k. (λ a. absurd cc, λ c. absurd (not-ready w.p w.first c.1));
          }
      go false t (inr (inr r)) =
          let is : outcome_of set h event.Begin ≡ outcome.Begun (epoch (mined set h + 1)) = is-held None t r.held in
          let cut = r.ready.cut in
          record {
            busy = λ k. (λ a. absurd cc, λ c. absurd (both_ways _ t c.0));
            nothing_cut = (λ a. absurd cc, λ c. let all = c.1 in absurd (omega arith));
            not_committed = λ p. (λ a. absurd cc, λ c. absurd (not-ready p.0 c.2 r.ready));
            begun = λ k. (λ a. let same : k ≡ epoch (mined set h + 1) = cc in (t, r.ready, ap (λ (k : Epoch). k.0) same), λ c. is ∙ ap outcome.Begun (epoch-is k (mined set h + 1) c.2));
          }

  pub mine-answers : MineAnswers set h
  mine-answers = go (is_open set h) refl next-epoch
    where
      is-held : (r : Option Refusal) → is_open set h ≡ false → held_back set h (mined set h + 1) ≡ r → outcome_of set h event.Mine ≡ mine_answer (mined set h + 1) r
      is-held r t e = cond-false (is_open set h) _ _ t ∙ ap (mine_answer (mined set h + 1)) e

      done : IsNextReady set h → outcome_of set h event.Mine ≡ outcome.Mined (epoch (mined set h + 1)) → MineAnswers set h
      done r is =
          let cut = r.cut in
          record {
            nothing_cut = (λ a. absurd cc, λ all. absurd (omega arith));
            not_committed = λ p. (λ a. absurd cc, λ c. absurd (not-ready p.0 c.1 r));
            mined = λ k. (λ a. let same : k ≡ epoch (mined set h + 1) = cc in (r, ap (λ (k : Epoch). k.0) same), λ c. is ∙ ap outcome.Mined (epoch-is k (mined set h + 1) c.1));
          }

      go : (b : Bool) → is_open set h ≡ b → IsBehind ⊎ (IsWaiting ⊎ IsClear) → MineAnswers set h
      go true t _ =
          let m = mined-order set h in
          let cut = m.begun_cut t in
          done (record { cut = omega arith; each = λ p lt. let le = m.begun p lt t in omega arith }) (cond-true (is_open set h) _ _ t)
      go false t (inl b) =
          let is : outcome_of set h event.Mine ≡ outcome.Refused refusal.NothingCut = is-held (Some refusal.NothingCut) t b.held in
          let all = b.all in
          record {
            nothing_cut = (λ _. all, λ _. is);
            not_committed = λ p. (λ a. absurd cc, λ c. let lt = c.0 in absurd (omega arith));
            mined = λ k. (λ a. absurd cc, λ c. let lt = c.0.cut in absurd (omega arith));
          }
      go false t (inr (inl w)) =
          let is : outcome_of set h event.Mine ≡ outcome.Refused (refusal.NotCommitted (part w.p)) = is-held (Some (refusal.NotCommitted (part w.p))) t w.held in
          let cut = w.cut in
          record {
            nothing_cut = (λ a. absurd cc, λ all. absurd (omega arith));
            not_committed = λ p. (
              λ a. let same : part w.p ≡ p = cc in (cut, subst (λ (p : PartId). IsFirstUncommitted set h p.0) same w.first),
              λ c. is ∙ ap (λ (p : PartId). outcome.Refused (refusal.NotCommitted p)) (part-is p w.p (one-first p.0 w.p c.1 w.first)),
            );
            mined = λ k. (λ a. absurd cc, λ c. absurd (not-ready w.p w.first c.0));
          }
      go false t (inr (inr r)) = done r.ready (is-held None t r.held)

  pub cut-answers : (n : Option ℕ) → CutAnswers set h n
  cut-answers n = go (unreported_part set h) refl
    where
      go : (o : Option ℕ) → unreported_part set h ≡ o → CutAnswers set h n
      go None e =
          let all : (p : ℕ) → p < set.parts → has_reported set h p ≡ true = λ p lt. first-none 0 set.parts (λ p. has_reported set h p) e p (omega arith) (omega arith) in
          let is : outcome_of set h (event.Cut n) ≡ outcome.CutMade (epoch (cuts set h + 1)) = ap (cut_answer (cuts set h + 1)) e in
          record {
            not_reported = λ p. (λ a. absurd cc, λ f. absurd (both_ways _ f.never (all p.0 f.part)));
            cut_made = λ k. (λ a. let same : k ≡ epoch (cuts set h + 1) = cc in (all, ap (λ (k : Epoch). k.0) same), λ c. is ∙ ap outcome.CutMade (epoch-is k (cuts set h + 1) c.1));
          }
      go (Some q) e =
          let first = first-some 0 set.parts (λ p. has_reported set h p) q e in
          let lt = first.lt in
          let never : IsFirstUnreported set h q = record { part = omega arith; never = first.fails; before = λ r less. first.before r (omega arith) less } in
          let is : outcome_of set h (event.Cut n) ≡ outcome.Refused (refusal.NotReported (part q)) = ap (cut_answer (cuts set h + 1)) e in
          record {
            not_reported = λ p. (
              λ a. let same : part q ≡ p = cc in subst (λ (p : PartId). IsFirstUnreported set h p.0) same never,
              λ f. is ∙ ap (λ (p : PartId). outcome.Refused (refusal.NotReported p)) (part-is p q (one p.0 q f never)),
            );
            cut_made = λ k. (λ a. absurd cc, λ c. absurd (both_ways _ never.never (c.0 q never.part)));
          }
        where
          one : (p q : ℕ) → IsFirstUnreported set h p → IsFirstUnreported set h q → p ≡ q
          one p q a b =
              ⊎_elim (λ (lt : p < q). absurd (both_ways _ a.never (b.before p lt)))
              (λ (ge : q ≤ p). ⊎_elim (λ (lt : q < p). absurd (both_ways _ b.never (a.before q lt))) (λ (le : p ≤ q). omega arith) (cases_lt q p)) (cases_lt p q)

  -- what is sent under one name is one stamp
  one-sent : (j c to : ℕ) (s t : Stamp) → 0 < set.parts → IsHistory set h → IsSent set h j c to s → IsSent set h j c to t → s ≡ t
  one-sent j c to s t some legal a b =
      let g = sound set h j some legal in
      let le : c ≤ inc set h j = subst (λ (d : ℕ). d ≤ inc set h j) a.inc (g.later s a.made a.ingest) in
      let to_is : s.to ≡ t.to = a.to ∙ sym b.to in
      only_to (base set h j c) (made_by j c (sent set h)) s t (g.made c le)
      (has-made j c (sent set h) s ∙ and_from _ _ a.made (and_from _ _ (eq-eqb _ _ a.ingest) (eq-eqb _ _ a.inc)))
      (has-made j c (sent set h) t ∙ and_from _ _ b.made (and_from _ _ (eq-eqb _ _ b.ingest) (eq-eqb _ _ b.inc))) to_is

  sent-found : (j c to : ℕ) (s : Stamp) → IsFound (sent set h) j c to s → IsSent set h j c to s
  sent-found j c to s f = record { made = f.made; ingest = f.ingest; inc = f.inc; to = f.to }

  module _ (p : PartId) (j : IngestId) (c : Inc) (to : ℕ) (some : 0 < set.parts) (legal : IsHistory set h) where
    abbrev e : Event
    e = event.Deliver p j c to

    pub deliver-refused : DeliverRefused set h p j c to
    deliver-refused = record { one = λ s t. one-sent j.0 c.0 to s t some legal; not_sent = go (find_stamp (sent set h) j.0 c.0 to) refl }
      where
        never : (a b d : Bool) (s : Inc) (at : ℕ) → cond a (outcome.Stale s) (cond b outcome.Repeat (cond d (outcome.Early at) (outcome.Held at))) ≡ outcome.Refused refusal.NotSent → ⊥
        never true b d s at e = cc
        never false true d s at e = cc
        never false false true s at e = cc
        never false false false s at e = cc

        go : (o : Option Stamp) → find_stamp (sent set h) j.0 c.0 to ≡ o → (outcome_of set h e ≡ outcome.Refused refusal.NotSent) ↔ ((s : Stamp) → IsSent set h j.0 c.0 to s → ⊥)
        go None f = (λ _ s k. missing (sent set h) j.0 c.0 to s f (record { made = k.made; ingest = k.ingest; inc = k.inc; to = k.to }), λ _. ap (delivery set h e p.0 j.0) f)
        go (Some x) f = (
          λ a. absurd (never (ltb x.inc.0 (seen set h p.0 j.0)) (has (delivered set h p.0) x) (ltb (top set (e ∷ h) p.0 j.0) x.to) (record { 0 = seen set h p.0 j.0 }) (top set (e ∷ h) p.0 j.0) (sym (ap (delivery set h e p.0 j.0) f) ∙ a)),
          λ none. absurd (none x (sent-found j.0 c.0 to x (found (sent set h) j.0 c.0 to x f))),
        )

    -- what a delivery of a stamp answers, by three tests
    abbrev answer : Bool → Bool → Bool → Outcome
    answer a b d = cond a (outcome.Stale (incarnation (seen set h p.0 j.0))) (cond b outcome.Repeat (cond d (outcome.Early (top set (e ∷ h) p.0 j.0)) (outcome.Held (top set (e ∷ h) p.0 j.0))))

    pub deliver-answers : (s : Stamp) → IsSent set h j.0 c.0 to s → DeliverAnswers set h p j c to s
    deliver-answers s k = go (ltb c.0 (seen set h p.0 j.0)) refl (has (delivered set h p.0) s) refl (ltb (top set (e ∷ h) p.0 j.0) to) refl
      where
        find-is : (o : Option Stamp) → find_stamp (sent set h) j.0 c.0 to ≡ o → o ≡ Some s
        find-is None f = absurd (missing (sent set h) j.0 c.0 to s f (record { made = k.made; ingest = k.ingest; inc = k.inc; to = k.to }))
        find-is (Some x) f = ap Some (one-sent j.0 c.0 to x s some legal (sent-found j.0 c.0 to x (found (sent set h) j.0 c.0 to x f)) k)

        named : outcome_of set h e ≡ answer (ltb c.0 (seen set h p.0 j.0)) (has (delivered set h p.0) s) (ltb (top set (e ∷ h) p.0 j.0) to)
        named =
            ap (delivery set h e p.0 j.0) (find-is (find_stamp (sent set h) j.0 c.0 to) refl)
            ∙ (ap (λ (d : ℕ). answer (ltb d (seen set h p.0 j.0)) (has (delivered set h p.0) s) (ltb (top set (e ∷ h) p.0 j.0) s.to)) k.inc
            ∙ ap (λ (m : ℕ). answer (ltb c.0 (seen set h p.0 j.0)) (has (delivered set h p.0) s) (ltb (top set (e ∷ h) p.0 j.0) m)) k.to)

        go : (a : Bool) → ltb c.0 (seen set h p.0 j.0) ≡ a → (b : Bool) → has (delivered set h p.0) s ≡ b → (d : Bool) → ltb (top set (e ∷ h) p.0 j.0) to ≡ d → DeliverAnswers set h p j c to s
        go true t b u d v =
            let is : outcome_of set h e ≡ outcome.Stale (incarnation (seen set h p.0 j.0)) = named ∙ rw t refl in
            let lt : c.0 < seen set h p.0 j.0 = ltb-true _ _ t in
            record {
              stale = λ x. (λ a. let same : x ≡ incarnation (seen set h p.0 j.0) = cc in (lt, ap (λ (x : Inc). x.0) same), λ q. is ∙ ap outcome.Stale (inc-is x (seen set h p.0 j.0) q.1));
              repeat = (λ a. absurd cc, λ q. let le = q.0 in absurd (omega arith));
              early = λ at. (λ a. absurd cc, λ q. let le = q.0 in absurd (omega arith));
              held = λ at. (λ a. absurd cc, λ q. let le = q.0 in absurd (omega arith));
            }
        go false t true u d v =
            let is : outcome_of set h e ≡ outcome.Repeat = named ∙ rw (t, u) refl in
            let le : seen set h p.0 j.0 ≤ c.0 = ltb-false _ _ t in
            record {
              stale = λ x. (λ a. absurd cc, λ q. let lt = q.0 in absurd (omega arith));
              repeat = (λ _. (le, u), λ _. is);
              early = λ at. (λ a. absurd cc, λ q. absurd (both_ways _ q.1 u));
              held = λ at. (λ a. absurd cc, λ q. absurd (both_ways _ q.1 u));
            }
        go false t false u true v =
            let is : outcome_of set h e ≡ outcome.Early (top set (e ∷ h) p.0 j.0) = named ∙ rw (t, u, v) refl in
            let le : seen set h p.0 j.0 ≤ c.0 = ltb-false _ _ t in
            let below : top set (e ∷ h) p.0 j.0 < to = ltb-true _ _ v in
            record {
              stale = λ x. (λ a. absurd cc, λ q. let lt = q.0 in absurd (omega arith));
              repeat = (λ a. absurd cc, λ q. absurd (both_ways _ u q.1));
              early = λ at. (λ a. let same : at ≡ top set (e ∷ h) p.0 j.0 = cc in (le, u, omega arith, same), λ q. is ∙ ap outcome.Early (sym q.3));
              held = λ at. (λ a. absurd cc, λ q. let far = q.2 in let same = q.3 in absurd (omega arith));
            }
        go false t false u false v =
            let is : outcome_of set h e ≡ outcome.Held (top set (e ∷ h) p.0 j.0) = named ∙ rw (t, u, v) refl in
            let le : seen set h p.0 j.0 ≤ c.0 = ltb-false _ _ t in
            let above : to ≤ top set (e ∷ h) p.0 j.0 = ltb-false _ _ v in
            record {
              stale = λ x. (λ a. absurd cc, λ q. let lt = q.0 in absurd (omega arith));
              repeat = (λ a. absurd cc, λ q. absurd (both_ways _ u q.1));
              early = λ at. (λ a. absurd cc, λ q. let far = q.2 in let same = q.3 in absurd (omega arith));
              held = λ at. (λ a. let same : at ≡ top set (e ∷ h) p.0 j.0 = cc in (le, u, omega arith, same), λ q. is ∙ ap outcome.Held (sym q.3));
            }
