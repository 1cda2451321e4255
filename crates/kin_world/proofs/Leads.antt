-- The deltas of the next epoch lead from the miner's snapshot to the hub's.
use Rattle.std.proofs.Common.{◌≡◌, ℕ, ◌+◌, ◌-◌, ◌^◌, ◌<◌, ◌≤◌, ◌∙◌, suc, add-one, Bool, true, false, cond, None, List, length, refl, sym, ap, subst, arith, get_or}
use Rattle.kin_ids.specs.declared.ids.User.{User}
use Rattle.kin_ids.specs.declared.ops.Record.{Record}
use Rattle.kin_ids.specs.Graph.{Graph, empty_graph}
use Rattle.kin_ids.specs.Order.{of_epoch, order, folded, snapshot}
use Rattle.kin_ids.proofs.Joins.{folded-append}
use Rattle.kin_ids.specs.Parts.{PartView}
use Rattle.kin_ids.specs.Wholes.{IsViewOf}
use Rattle.kin_graph.specs.Deltas.{DeltaLists, no_change}
use Rattle.kin_graph.specs.Tells.{Tells}
use Rattle.kin_blocks.specs.Snaps.{joined}
use Rattle.kin_blocks.proofs.Few.{few-said}
use Rattle.kin_changes.specs.Views.{AreLed, Continues, delta_at}
use Rattle.kin_changes.proofs.Led.{led-law}
use Rattle.kin_changes.proofs.Mentioned.{all-mentioned}
use Rattle.kin_hub.specs.Hubs.{KeepsEpoch, cuts_in, snap_in, deltas_in, parts_in}
use Rattle.kin_hub.specs.Commits.{AreDeltas}
use Rattle.kin_hub.proofs.Committing.{few-law, kept-deltas, kept-snapshot, do-not-fall, inside}
use Rattle.kin_hub.proofs.Storing.{snapshot-sound}
use Rattle.kin_script.specs.declared.events.Event.{Event}
use Rattle.kin_history.specs.Setting.{Setting}
use Rattle.kin_rules.proofs.SmallViews.{small-view}
use Rattle.kin_history.specs.Vectors.{vector}
use Rattle.kin_history.specs.Mining.{mined, is_open}
use Rattle.kin_mine.specs.Miners.{seen}
use Rattle.kin_world.specs.Laws.{LeadLaw}
use Rattle.kin_world.specs.Worlds.{WorldView}
use Rattle.kin_world.specs.Mining.{held_back_in}
use Rattle.kin_world.specs.Stands.{Stands, HasHistory, story_of, last_begun}
use Rattle.kin_world.proofs.Cutting.{cuts_is}
use Rattle.kin_world.proofs.Epochs.{clear-ready, ready-kept, ready-whole}

-- the snapshot of an epoch goes on from that of the one before
continues-suc : (feeds : List (List Record)) (vectors : ℕ → ℕ → ℕ) (k : ℕ) → Continues (snapshot feeds vectors k) (snapshot feeds vectors (suc k))
continues-suc feeds vectors k = (of_epoch feeds (suc k) (vectors k) (vectors (suc k)) (length feeds), folded-append empty_graph (order feeds vectors k) (of_epoch feeds (suc k) (vectors k) (vectors (suc k)) (length feeds)))

continues : (feeds : List (List Record)) (vectors : ℕ → ℕ → ℕ) (k : ℕ) → Continues (snapshot feeds vectors k) (snapshot feeds vectors (k + 1))
continues feeds vectors k = subst (λ (n : ℕ). Continues (snapshot feeds vectors k) (snapshot feeds vectors n)) (sym (add-one k)) (continues-suc feeds vectors k)

module _ (set : Setting) (w : WorldView) (h : List Event) (s : Stands set w h) (k : ℕ) (kept : KeepsEpoch w.hub (k + 1)) where
  -- the deltas of a kept epoch lead to its snapshot from each view of the graph of the one before
  pub leads : (was : PartView) → IsViewOf (snapshot set.feeds (vector set h) k) was
      → AreLed was (joined (snap_in w.hub (k + 1))) (deltas_in w.hub (k + 1))
  leads was whole =
      let are : AreDeltas w.hub (k + 1) (deltas_in w.hub (k + 1)) = kept-deltas w.hub (k + 1) (story_of set h, s.epochs.hub) kept in
      let feeds = set.feeds in
      let v = vector set h in
      let count = are.count in
      let ds = deltas_in w.hub (k + 1) in
      let some : 0 < length ds = omega (arith, count, s.epochs.hub.core.parts_are, s.epochs.hub.stores.parts_are, s.epochs.hub.stores.versions.some) in
      led-law (snapshot feeds v k) (snapshot feeds v (k + 1)) was (joined (snap_in w.hub (k + 1))) ds (snapshot-sound feeds v k)
      (snapshot-sound feeds v (k + 1)) (all-mentioned (order feeds v k)) (continues feeds v k) whole
      (kept-snapshot w.hub (k + 1) kept (story_of set h) s.epochs.hub) some
      (λ p lt. subst (λ (n : ℕ). Tells n p (snapshot feeds v k) (snapshot feeds v (k + 1)) (delta_at ds p)) (sym count)
      (subst (λ (j : ℕ). Tells (parts_in w.hub) p (snapshot feeds v j) (snapshot feeds v (k + 1)) (delta_at ds p))
      (let before : k + 1 - 1 ≡ k = omega arith in before) (are.tell (story_of set h) p s.epochs.hub (omega (arith, lt, count)))))

pub lead-law : LeadLaw
lead-law set w h k was s kept whole = record {
  led = leads set w h s k kept was whole;
  small =
      let stores = s.epochs.hub.stores in
      let some = stores.versions.some in
      let low = kept.whole 0 some in
      let most = stores.within 0 (omega (arith, some, stores.parts_are)) in
      let few = few-law (story_of set h) w.hub (k + 1) s.epochs.hub s.over.limits (omega (arith, low, most)) in
      small-view (snapshot set.feeds (vector set h) (k + 1)) (joined (snap_in w.hub (k + 1)))
      (kept-snapshot w.hub (k + 1) kept (story_of set h) s.epochs.hub) (omega (arith, few));
}

module _ (w : WorldView) (has : HasHistory w) (clear : held_back_in w ≡ None) where
  -- in the next snapshot nobody is mentioned too often
  pub clear-said : (u : User) → (joined (snap_in w.hub (w.mined + 1))).said u < 2 ^ 64
  clear-said u =
      let set = has.0 in
      let h = has.1 in
      let s = has.2 in
      let r = clear-ready set w h s clear in
      let cut = r.cut in
      let count = cuts_is set w h s in
      let whole = ready-whole set w h s r in
      let le : mined set h + 1 ≤ cuts_in w.hub = omega (arith, cut, count) in
      subst (λ (n : ℕ). n < 2 ^ 64) (sym (whole.said u))
      (few-said set.feeds (vector set h) s.over.limits (mined set h + 1) (do-not-fall (story_of set h) w.hub s.epochs.hub (mined set h + 1) le) (λ i i_lt. inside (story_of set h) w.hub s.epochs.hub (mined set h + 1) i le i_lt) u)

  module _ (closed : w.is_open ≡ false) where
    -- the miner's snapshot is that of the epoch mined last
    closed-seen : IsViewOf (snapshot has.0.feeds (vector has.0 has.1) (mined has.0 has.1)) (seen w.miner)
    closed-seen =
        let is : last_begun has.0 has.1 ≡ mined has.0 has.1 = ap (λ (b : Bool). cond b (mined has.0 has.1 + 1) (mined has.0 has.1)) (sym has.2.mining.open_is ∙ closed) in
        subst (λ (k : ℕ). IsViewOf (snapshot has.0.feeds (vector has.0 has.1) k) (seen w.miner)) is has.2.mining.miner.seen_is

    pub clear-led : AreLed (seen w.miner) (joined (snap_in w.hub (w.mined + 1))) (deltas_in w.hub (w.mined + 1))
    clear-led =
        let set = has.0 in
        let h = has.1 in
        let s = has.2 in
        leads set w h s w.mined (ready-kept set w h s (clear-ready set w h s clear)) (seen w.miner)
        (subst (λ (m : ℕ). IsViewOf (snapshot set.feeds (vector set h) m) (seen w.miner)) (sym s.mining.mined_is) closed-seen)
