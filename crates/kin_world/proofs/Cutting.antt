-- A cut.
use Rattle.std.proofs.Common.{◌≡◌, ℕ, zero, suc, ◌+◌, ◌<◌, ◌≤◌, ◌≢◌, Bool, true, eqb, ltb, ◌&&◌, ⊎_elim, List, [], ◌∷◌, Option, Some, None, Result, Ok, Err, refl, sym, ◌∙◌, ap, subst, arith, length}
use Rattle.std.specs.Prelude.{IfOk, OnOk, OnErr, IsErrOf, ◌↔◌}
use Rattle.std.proofs.lemmas.Bool.{cond-true, cond-false, cond_both, cases_eq, eq-eqb, ne_eqb, and_parts, ltb-true}
use Rattle.std.proofs.lemmas.List.{length_push}
use Rattle.kin_ids.specs.declared.ids.PartId.{PartId}
use Rattle.kin_ids.specs.declared.stamps.End.{End}
use Rattle.kin_ids.specs.declared.faults.Memory.{Memory}
use Rattle.kin_ids.specs.Fair.{fair}
use Rattle.kin_ids.specs.Lines.{past, upto, made_by, first_without}
use Rattle.kin_script.specs.declared.events.Event.{Event}
use Rattle.kin_script.specs.declared.outcomes.Outcome.{Outcome}
use Rattle.kin_script.specs.declared.events.Event.TheVariants as event
use Rattle.kin_script.specs.declared.outcomes.Outcome.TheVariants as outcome
use Rattle.kin_script.specs.declared.outcomes.Refusal.TheVariants as refusal
use Rattle.kin_history.specs.Setting.{Setting, nodes, IsEvent}
use Rattle.kin_history.specs.Lines.{line, delivered, bases, base, seen, sent}
use Rattle.kin_history.specs.Vectors.{is_none, unreported_part, cuts, vector, committed}
use Rattle.kin_history.specs.Outcomes.{cut_answer}
use Rattle.kin_history.proofs.Cuts.{CutStays, CutMakes, cut_views, new_vector, keeps}
use Rattle.kin_held.specs.ChainOf.{IsChainOf}
use Rattle.kin_table.specs.Cuts.{IsNextCut}
use Rattle.kin_table.specs.declared.answers.CutRefused.{CutRefused}
use Rattle.kin_table.specs.declared.answers.CutRefused.TheVariants as refused
use Rattle.kin_table.specs.declared.cuts.Cut.{Cut}
use Rattle.kin_hub.specs.Cores.{since_cut, with_cut}
use Rattle.kin_hub.specs.Cuts.{next_at, with_next}
use Rattle.kin_hub.specs.Goes.{HubCuts, cut_story}
use Rattle.kin_ids.specs.Graph.{Graph}
use Rattle.kin_ids.specs.Order.{snapshot}
use Rattle.kin_ids.proofs.Alike.{snapshot-alike}
use Rattle.kin_history.specs.Mining.{mined, is_open}
use Rattle.kin_history.proofs.Mined.{mined-order}
use Rattle.kin_mine.specs.Miners.{IsMinerOf}
use Rattle.kin_hub.specs.Hubs.{HubView, agreed_in, missing_in, cuts_in, chain_in}
use Rattle.kin_hub.proofs.Alike.{hub-alike}
use Rattle.kin_world.specs.Worlds.{WorldView, setting_of, HasRoom, KeptWhereRefused}
use Rattle.kin_world.specs.Steps.{Cuts}
use Rattle.kin_world.specs.Stands.{Stands, HasHistory, Keeps, KeptAtMemory, KeepsOrBegins, agreed_line, story_of, last_begun}
use Rattle.kin_world.proofs.Facts.{some_parts, in_range, agreed_is}
use Rattle.kin_world.proofs.Refusals.{refused-keeps}

-- the least number is the same where the tests are
pub first-alike : (from n : ℕ) (f g : ℕ → Bool) → ((p : ℕ) → p < from + n → f p ≡ g p) → first_without from n f ≡ first_without from n g
first-alike from zero f g same = refl
first-alike from (suc n) f g same = rw (same from (omega arith), first-alike (from + 1) n f g (λ p lt. same p (omega arith))) refl

-- no partition has committed what isn't cut
pub committed-low : (set : Setting) (h : List Event) (p : ℕ) → committed set h p ≤ cuts set h
committed-low set [] p = omega arith
committed-low set (event.Commit q ∷ h) p =
    let low = committed-low set h p in
    cond_both (eqb q.0 p && ltb (committed set h p) (cuts set h)) (committed set h p + 1) (committed set h p) (λ (m : ℕ). m ≤ cuts set h)
    (λ t. let lt : committed set h p < cuts set h = ltb-true _ _ (and_parts _ _ t).1 in omega arith) (λ _. low)
committed-low set (event.Cut n ∷ h) p =
    let low = committed-low set h p in
    ⊎_elim (λ (r : CutStays set h n). let c = r.cuts_is in omega arith) (λ (m : CutMakes set h n). let c = m.cuts_is in omega arith) (cut_views set h n)
committed-low set (_ ∷ h) p = committed-low set h p

-- an event cuts at most one epoch
cuts-next : (set : Setting) (h : List Event) (e : Event) → cuts set (e ∷ h) ≤ cuts set h + 1
cuts-next set h (event.Cut n) = ⊎_elim (λ (r : CutStays set h n). let c = r.cuts_is in omega arith) (λ (m : CutMakes set h n). let c = m.cuts_is in omega arith) (cut_views set h n)
cuts-next set h _ = omega arith

module _ (set : Setting) (w : WorldView) (h : List Event) (s : Stands set w h) where
  pub cuts_is : cuts_in w.hub ≡ cuts set h
  cuts_is = let count = s.epochs.vectors in omega arith

  -- the table's missing partition is the history's
  pub missing_is : missing_in w.hub ≡ unreported_part set h
  missing_is =
      let rows = s.epochs.hub.core.core.parts in
      let parts = s.epochs.hub.core.parts_are in
      let count : length w.hub.core.table.rows ≡ set.parts = omega arith in
      rw count (first-alike 0 set.parts _ _ (λ p lt. s.partitions.rows p (omega arith)))

  module _ (n : Option ℕ) (legal : IsEvent set (event.Cut n)) where
    -- the vectors up to the last one stay, and so does each chain's floor
    chain-stands : (p i : ℕ) → p < set.parts → i < nodes set →
        IsChainOf i (seen set h p i) (base set h i (seen set h p i)) (vector set (event.Cut n ∷ h) (committed set h p) i) (delivered set h p)
        (upto (base set h i (seen set h p i)) (line set h i)) (made_by i (seen set h p i) (sent set h)) (chain_in w.hub p i)
    chain-stands p i p_lt i_lt =
        let kept = (keeps set h (event.Cut n) i (some_parts set w h s) (legal, s.over.history) i_lt).kept (committed set h p) (committed-low set h p) in
        subst (λ (at : ℕ). IsChainOf i (seen set h p i) (base set h i (seen set h p i)) at (delivered set h p)
        (upto (base set h i (seen set h p i)) (line set h i)) (made_by i (seen set h p i) (sent set h)) (chain_in w.hub p i)) (sym kept) (s.partitions.chains p i p_lt i_lt)

    module _ (made : CutMakes set h n) where
      abbrev Next : ℕ → ℕ
      Next = next_at (nodes set) (vector set h (cuts_in w.hub)) (agreed_line set h) (agreed_in w.hub) n

      next-is : (o : Option ℕ) (i : ℕ) → i < nodes set → next_at (nodes set) (vector set h (cuts_in w.hub)) (agreed_line set h) (agreed_in w.hub) o i ≡ new_vector set h o i
      next-is None i lt = agreed_is set w h s i lt
      next-is (Some m) i lt = ap (λ (k : ℕ). fair (vector set h k) (λ j. past (vector set h k j) (agreed_line set h j)) (nodes set) m i) cuts_is

      -- the hub's vectors are the history's
      vector-is : (k i : ℕ) → i < nodes set → with_next (vector set h) (cuts_in w.hub + 1) Next k i ≡ vector set (event.Cut n ∷ h) k i
      vector-is k i lt =
          let count = cuts_is in
          ⊎_elim (λ (e : k ≡ cuts set h + 1).
          cond-true (eqb k (cuts_in w.hub + 1)) _ _ (eq-eqb _ _ (omega arith)) ∙ (next-is n i lt ∙ (sym (made.new_is i) ∙ ap (λ (j : ℕ). vector set (event.Cut n ∷ h) j i) (sym e))))
          (λ (ne : k ≢ cuts set h + 1). cond-false (eqb k (cuts_in w.hub + 1)) _ _ (ne_eqb _ _ (λ e. ne (omega arith))) ∙ sym (made.old_is k i ne))
          (cases_eq k (cuts set h + 1))

      -- the graph of the epoch begun last stays
      begun-stays : IsMinerOf (snapshot set.feeds (vector set (event.Cut n ∷ h)) (last_begun set h)) (last_begun set h) w.miner
      begun-stays =
          let order = mined-order set h in
          let low : last_begun set h ≤ cuts set h = cond_both (is_open set h) (mined set h + 1) (mined set h) (λ (k : ℕ). k ≤ cuts set h) order.begun_cut (λ _. order.cut) in
          subst (λ (g : Graph). IsMinerOf g (last_begun set h) w.miner)
          (snapshot-alike set.feeds (vector set h) (vector set (event.Cut n ∷ h)) (last_begun set h) (λ j i le lt. sym (made.old_is j i (λ e. absurd (omega arith))))) s.mining.miner

      cut-stands : (ends : List End) → HubCuts w.hub n (record w.hub { core = with_cut w.hub.core ends }) → Stands set (record w { hub = record w.hub { core = with_cut w.hub.core ends } }) (event.Cut n ∷ h)
      cut-stands ends stands = record {
        over = record {
          world = record { nodes = s.over.world.nodes; hub_nodes = s.over.world.hub_nodes; hub_parts = s.over.world.hub_parts };
          feeds = s.over.feeds;
          parts = s.over.parts;
          landmarks = s.over.landmarks;
          limits = s.over.limits;
          history = (legal, s.over.history);
        };
        nodes = record { ingests = s.nodes.ingests; stamps = s.nodes.stamps };
        partitions = record {
          chains = chain-stands;
          rows = s.partitions.rows;
          row_incs = s.partitions.row_incs;
          row_tops = s.partitions.row_tops;
        };
        epochs = record {
          vectors = let one = length_push w.hub.core.table.vectors ends in let count = s.epochs.vectors in let more = made.cuts_is in omega arith;
          committed_are = s.epochs.committed_are;
          kept = s.epochs.kept;
          hub = hub-alike (cut_story (story_of set h) (cuts_in w.hub + 1) Next) (vector set (event.Cut n ∷ h)) (record w.hub { core = with_cut w.hub.core ends }) (λ k i _ lt. vector-is k i lt)
              (stands (story_of set h) s.epochs.hub);
        };
        mining = record { mined_is = s.mining.mined_is; open_is = s.mining.open_is; miner = begun-stays; quiet = s.mining.quiet };
      }

  -- where every partition has reported, the history makes the cut too
  made-too : (n : Option ℕ) → unreported_part set h ≡ None → CutMakes set h n
  made-too n none =
      let sure : is_none (unreported_part set h) ≡ true = ap is_none none in
      ⊎_elim (λ (r : CutStays set h n).
      let same = r.cuts_is in
      let more : cuts set (event.Cut n ∷ h) ≡ cuts set h + 1 = cond-true (is_none (unreported_part set h)) (cuts set h + 1) (cuts set h) sure in
      absurd (omega arith))
      (λ (m : CutMakes set h n). m) (cut_views set h n)

pub cut-keeps : (old : WorldView) (n : Option ℕ) (o : Outcome) (new : WorldView) → IsEvent (setting_of old) (event.Cut n) → Cuts old n o new → Keeps old (event.Cut n) o new
cut-keeps old n (outcome.Refused (refusal.NotReported p)) new legal refused =
    refused-keeps old (event.Cut n) (refusal.NotReported p) new legal refused.1
    (λ set h s. ap (cut_answer (cuts set h + 1)) (sym (missing_is set old h s) ∙ refused.0))
cut-keeps old n (outcome.CutMade k) new legal cut = λ set h s.
    let none : unreported_part set h ≡ None = sym (missing_is set old h s) ∙ cut.all in
    let made = made-too set old h s n none in
    let count = cuts_is set old h s in
    let number : k.0 ≡ cuts set h + 1 = cut.epoch ∙ ap (λ (m : ℕ). m + 1) count in
    let is : new ≡ record old { hub = record old.hub { core = with_cut old.hub.core cut.ends } } = cut.world ∙ ap (λ (v : HubView). record old { hub = v }) cut.hub in (
      rw none (ap (λ (m : ℕ). outcome.CutMade (record { 0 = m })) number),
      subst (λ (v : WorldView). Stands set v (event.Cut n ∷ h)) (sym is) (cut-stands set old h s n (in_range set old h s (event.Cut n) legal) made cut.ends (subst (HubCuts old.hub n) cut.hub cut.cuts)),
    )
cut-keeps old n _ new legal cut = absurd cut

pub cut-kept : (old : WorldView) (n : Option ℕ) (o : Outcome) (new : WorldView) → Cuts old n o new → KeptWhereRefused old o new
cut-kept old n (outcome.Refused (refusal.NotReported p)) new refused = refused.1
cut-kept old n (outcome.CutMade k) new cut = tt
cut-kept old n _ new cut = absurd cut

-- how many epochs are cut after want of memory
cuts-kept : (old : WorldView) (e : Event) (new : WorldView) → HasHistory old → KeptAtMemory old e new → cuts_in new.hub ≤ cuts_in old.hub + 1
cuts-kept old event.Mine new (set, h, s) kept =
    let was_is = cuts_is set old h s in
    ⊎_elim (λ (t : Stands set new h). let now_is = cuts_is set new h t in omega arith)
    (λ (t : Stands set new (event.Begin ∷ h)). let now_is = cuts_is set new (event.Begin ∷ h) t in omega arith) (kept set h s)
cuts-kept old _ new has kept = rw kept (omega arith)

-- how many epochs are cut after an event, by what it answered
pub cuts-after : (old : WorldView) (e : Event) (r : Result Outcome Memory) (new : WorldView) → HasHistory old → IfOk r (λ o. Keeps old e o new) → OnErr r (KeptAtMemory old e new) → cuts_in new.hub ≤ cuts_in old.hub + 1
cuts-after old e (Ok o) new story keeps err =
    let now = (keeps story.0 story.1 story.2).1 in
    let was_is = cuts_is story.0 old story.1 story.2 in
    let now_is = cuts_is story.0 new (e ∷ story.1) now in
    let next = cuts-next story.0 story.1 e in
    omega arith
cuts-after old e (Err x) new story keeps err = cuts-kept old e new story err

-- an event has room where a cut has
pub has-room : (w : WorldView) (e : Event) → HasRoom w (event.Cut None) → HasRoom w e
has-room w (event.Cut n) room = room
has-room w _ room = tt

-- what the hub's answer to a cut makes of the world
module _ (old : WorldView) (n : Option ℕ) (hub : HubView) (r : Result Cut CutRefused) (unreported : (p : PartId) → IsErrOf r (refused.NotReported p) ↔ (missing_in old.hub ≡ Some p.0)) where
  none-missing : (cut : Cut) → r ≡ Ok cut → missing_in old.hub ≡ None
  none-missing cut is = go (missing_in old.hub) refl
    where
      go : (o : Option ℕ) → missing_in old.hub ≡ o → o ≡ None
      go None e = refl
      go (Some q) e = let refused_it = sym is ∙ (unreported (record { 0 = q })).1 e in absurd cc

  pub cut-made : (cut : Cut) → r ≡ Ok cut → IfOk r (IsNextCut old.hub.core.table n (since_cut old.hub.core)) → IfOk r (λ (made : Cut). hub ≡ record old.hub { core = with_cut old.hub.core made.ends }) →
      OnOk r (HubCuts old.hub n hub) → Cuts old n (outcome.CutMade cut.epoch) (record old { hub = hub })
  cut-made cut is next appended stands = record {
    all = none-missing cut is;
    epoch = (rw is at next).epoch;
    ends = cut.ends;
    hub = rw is at appended;
    cuts = rw is at stands;
    world = refl;
  }

  pub cut-refused : (p : PartId) → r ≡ Err (refused.NotReported p) → OnErr r (hub ≡ old.hub) → Cuts old n (outcome.Refused (refusal.NotReported p)) (record old { hub = hub })
  cut-refused p is err =
      let same : hub ≡ old.hub = rw is at err in
      ((unreported p).0 (rw is refl), ap (λ (v : HubView). record old { hub = v }) same)
