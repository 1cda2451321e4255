-- What a world that stands for a history has of its epochs: what holds the next one back, and the snapshot of the one begun last.
use Rattle.std.proofs.Common.{◌≡◌, ℕ, ◌+◌, ◌<◌, ◌≤◌, ◌^◌, Bool, true, false, cond, ltb, leb, ◌⊎◌, inl, inr, ⊎_elim, List, [], Option, Some, None, refl, sym, ◌∙◌, ap, subst, arith, length}
use Rattle.std.proofs.lemmas.Bool.{cond_both}
use Rattle.kin_ids.specs.Graph.{Graph}
use Rattle.kin_ids.specs.Lines.{first_without}
use Rattle.kin_ids.specs.Order.{snapshot}
use Rattle.kin_ids.specs.Wholes.{IsViewOf}
use Rattle.kin_script.specs.declared.events.Event.{Event}
use Rattle.kin_script.specs.declared.events.Event.TheVariants as event
use Rattle.kin_script.specs.declared.outcomes.Outcome.{Outcome}
use Rattle.kin_script.specs.declared.outcomes.Outcome.TheVariants as outcome
use Rattle.kin_script.specs.declared.outcomes.Refusal.{Refusal}
use Rattle.kin_script.specs.declared.outcomes.Refusal.TheVariants as refusal
use Rattle.kin_history.specs.Setting.{Setting}
use Rattle.kin_history.specs.Vectors.{cuts, vector, committed, uncommitted_part}
use Rattle.kin_history.specs.Mining.{not_committed, is_clear, held_back, mined, is_open}
use Rattle.kin_history.specs.Outcomes.{begin_answer, mine_answer, outcome_of}
use Rattle.kin_history.specs.Drain.{drain_event, next_of_drain}
use Rattle.kin_history.proofs.Mined.{IsReady, ready, mined-order}
use Rattle.kin_blocks.specs.Snaps.{joined}
use Rattle.kin_hub.specs.Hubs.{KeepsEpoch, parts_in, cuts_in, committed_in, snap_in}
use Rattle.kin_hub.proofs.Committing.{kept-snapshot}
use Rattle.kin_mine.specs.Miners.{active_in, begun}
use Rattle.kin_world.specs.Worlds.{WorldView}
use Rattle.kin_world.specs.Mining.{lagging_in, held_back_in, begin_told, turn_told, mine_told}
use Rattle.kin_world.specs.Stands.{Stands, HasHistory, last_begun, story_of}
use Rattle.kin_world.proofs.Cutting.{first-alike, cuts_is}

-- the epoch begun last is cut
pub begun-cut : (set : Setting) (h : List Event) → last_begun set h ≤ cuts set h
begun-cut set h = let order = mined-order set h in cond_both (is_open set h) (mined set h + 1) (mined set h) (λ (k : ℕ). k ≤ cuts set h) order.begun_cut (λ _. order.cut)

module _ (set : Setting) (w : WorldView) (h : List Event) (s : Stands set w h) where
  lagging-is : (k : ℕ) → lagging_in w k ≡ uncommitted_part set h k
  lagging-is k =
      ap (λ (n : ℕ). first_without 0 n (λ p. leb k (committed_in w.hub p))) s.over.parts
      ∙ first-alike 0 set.parts _ _ (λ p lt. ap (leb k) (s.epochs.committed_are p (omega arith)))

  pub held_back-is : held_back_in w ≡ held_back set h (mined set h + 1)
  held_back-is =
      ap (λ (m : ℕ). cond (ltb (cuts_in w.hub) (m + 1)) (Some refusal.NothingCut) (not_committed (lagging_in w (m + 1)))) s.mining.mined_is
      ∙ (ap (λ (c : ℕ). cond (ltb c (mined set h + 1)) (Some refusal.NothingCut) (not_committed (lagging_in w (mined set h + 1)))) (cuts_is set w h s)
      ∙ ap (λ (o : Option ℕ). cond (ltb (cuts set h) (mined set h + 1)) (Some refusal.NothingCut) (not_committed o)) (lagging-is (mined set h + 1)))

  -- what the world tells is what the history answers
  pub begin-answers : begin_told w ≡ outcome_of set h event.Begin
  begin-answers =
      let busy : ℕ → Outcome = λ m. outcome.Refused (refusal.Busy (record { 0 = m + 1 })) in
      ap (λ (b : Bool). cond b (busy w.mined) (begin_answer (w.mined + 1) (held_back_in w))) s.mining.open_is
      ∙ (ap (λ (m : ℕ). cond (is_open set h) (busy m) (begin_answer (m + 1) (held_back_in w))) s.mining.mined_is
      ∙ ap (λ (why : Option Refusal). cond (is_open set h) (busy (mined set h)) (begin_answer (mined set h + 1) why)) held_back-is)

  pub turn-answers : turn_told w ≡ cond (is_open set h) outcome.Turned (outcome.Refused refusal.NotBegun)
  turn-answers = ap (λ (b : Bool). cond b outcome.Turned (outcome.Refused refusal.NotBegun)) s.mining.open_is

  pub mine-answers : mine_told w ≡ outcome_of set h event.Mine
  mine-answers =
      let done : ℕ → Outcome = λ m. outcome.Mined (record { 0 = m + 1 }) in
      ap (λ (b : Bool). cond b (done w.mined) (mine_answer (w.mined + 1) (held_back_in w))) s.mining.open_is
      ∙ (ap (λ (m : ℕ). cond (is_open set h) (done m) (mine_answer (m + 1) (held_back_in w))) s.mining.mined_is
      ∙ ap (λ (why : Option Refusal). cond (is_open set h) (done (mined set h)) (mine_answer (mined set h + 1) why)) held_back-is)

  -- and so is the next event of the drain
  pub next-drains : drain_event (lagging_in w (cuts_in w.hub)) (ltb w.mined (cuts_in w.hub)) ≡ next_of_drain set h
  next-drains =
      ap (λ (c : ℕ). drain_event (lagging_in w c) (ltb w.mined c)) (cuts_is set w h s)
      ∙ (ap (λ (o : Option ℕ). drain_event o (ltb w.mined (cuts set h))) (lagging-is (cuts set h))
      ∙ ap (λ (m : ℕ). drain_event (uncommitted_part set h (cuts set h)) (ltb m (cuts set h))) s.mining.mined_is)

  -- where nothing holds the next epoch back, or it is open, it is cut and every partition has committed it
  pub clear-ready : held_back_in w ≡ None → IsReady set h (mined set h + 1)
  clear-ready clear = ready set h (mined set h + 1) (ap is_clear (sym held_back-is ∙ clear))

  pub open-ready : w.is_open ≡ true → IsReady set h (mined set h + 1)
  open-ready now =
      let is : is_open set h ≡ true = sym s.mining.open_is ∙ now in
      let order = mined-order set h in
      record { cut = order.begun_cut is; each = λ p lt. order.begun p lt is }

  module _ (r : IsReady set h (mined set h + 1)) where
    -- it has a number of 32 bits
    pub ready-room : w.mined + 1 < 2 ^ 32
    ready-room = let few = s.epochs.hub.core.core.table.few_cuts in let count = s.epochs.vectors in let cut = r.cut in let is = s.mining.mined_is in omega arith

    pub ready-done : (p : ℕ) → p < length w.hub.versions.committed → w.mined + 1 ≤ committed_in w.hub p
    ready-done p lt =
        let are = s.epochs.hub.stores.parts_are in
        let is = s.mining.mined_is in
        let done = r.each p (omega arith) in
        let there = s.epochs.committed_are p (omega arith) in
        omega arith

    pub ready-kept : KeepsEpoch w.hub (w.mined + 1)
    ready-kept = let first = s.epochs.kept in let is = s.mining.mined_is in record { since = omega arith; whole = ready-done }

    -- its snapshot is the graph of all records within its vector
    pub ready-whole : IsViewOf (snapshot set.feeds (vector set h) (mined set h + 1)) (joined (snap_in w.hub (w.mined + 1)))
    ready-whole = subst (λ (m : ℕ). IsViewOf (snapshot set.feeds (vector set h) (m + 1)) (joined (snap_in w.hub (w.mined + 1)))) s.mining.mined_is
        (kept-snapshot w.hub (w.mined + 1) ready-kept (story_of set h) s.epochs.hub)

  -- the epoch begun last is the one mined last, or the next one where that is open
  pub begun-closed : w.is_open ≡ false → begun w.miner ≡ w.mined
  begun-closed closed = s.mining.miner.epoch ∙ (ap (λ (b : Bool). cond b (mined set h + 1) (mined set h)) (sym s.mining.open_is ∙ closed) ∙ sym s.mining.mined_is)

  pub begun-open : w.is_open ≡ true → begun w.miner ≡ w.mined + 1
  begun-open now = s.mining.miner.epoch ∙ (ap (λ (b : Bool). cond b (mined set h + 1) (mined set h)) (sym s.mining.open_is ∙ now) ∙ ap (λ (m : ℕ). m + 1) (sym s.mining.mined_is))

-- the same of a world that stands for some history
module _ (w : WorldView) (has : HasHistory w) where
  pub clear-room : held_back_in w ≡ None → w.mined + 1 < 2 ^ 32
  clear-room clear = ready-room has.0 w has.1 has.2 (clear-ready has.0 w has.1 has.2 clear)

  pub clear-kept : held_back_in w ≡ None → KeepsEpoch w.hub (w.mined + 1)
  clear-kept clear = ready-kept has.0 w has.1 has.2 (clear-ready has.0 w has.1 has.2 clear)

  pub open-room : w.is_open ≡ true → w.mined + 1 < 2 ^ 32
  open-room now = ready-room has.0 w has.1 has.2 (open-ready has.0 w has.1 has.2 now)

  pub open-done : w.is_open ≡ true → (p : ℕ) → p < parts_in w.hub → w.mined + 1 ≤ committed_in w.hub p
  open-done now p lt =
      let cores = has.2.epochs.hub.core.parts_are in
      let stores = has.2.epochs.hub.stores.parts_are in
      ready-done has.0 w has.1 has.2 (open-ready has.0 w has.1 has.2 now) p (omega arith)

  pub open-begun : w.is_open ≡ true → begun w.miner ≡ w.mined + 1
  open-begun now = begun-open has.0 w has.1 has.2 now

  pub closed-begun : w.is_open ≡ false → begun w.miner ≡ w.mined
  closed-begun closed = begun-closed has.0 w has.1 has.2 closed

  pub closed-quiet : w.is_open ≡ false → active_in w.miner ≡ []
  closed-quiet closed = has.2.mining.quiet (sym has.2.mining.open_is ∙ closed)
