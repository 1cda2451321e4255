-- A hub whose partition commits an epoch stands for the same as before.
use Rattle.std.proofs.Common.{◌≡◌, ℕ, zero, suc, ◌+◌, ◌-◌, ◌^◌, ◌<◌, ◌≤◌, Bool, true, false, cond, eqb, ⊎_elim, List, [], ◌∷◌, refl}
use Rattle.std.proofs.Common.{sym, ◌∙◌, ap, subst, arith, length, get_or, max}
use Rattle.std.proofs.lemmas.Bool.{eqb-true, or_left, or_right, cases_lt}
use Rattle.std.proofs.lemmas.List.{length-set, get_or-drop}
use Rattle.std.proofs.lemmas.List.Elements.{All-weaker}
use Rattle.kin_ids.specs.declared.ids.User.{User}
use Rattle.kin_ids.specs.declared.ops.Piece.{Piece}
use Rattle.kin_ids.specs.declared.stamps.Stamp.{Stamp}
use Rattle.kin_ids.specs.Lines.{IsEnd, has, same_stamp, stamps_of, upto, past}
use Rattle.kin_ids.specs.Graph.{Graph, empty_graph, said}
use Rattle.kin_ids.specs.Order.{feed_at, of_epoch, order, snapshot, folded}
use Rattle.kin_ids.specs.Parting.{user_part}
use Rattle.kin_ids.specs.Parts.{PartView, IsPart, count_here}
use Rattle.kin_ids.specs.Records.{DoNotFall}
use Rattle.kin_ids.specs.Sizes.{AreWithinLimits}
use Rattle.kin_ids.proofs.Joins.{folded-append}
use Rattle.kin_ids.proofs.Lines.{same_stamp-refl, past_end, upto-past, IsEnd-append}
use Rattle.kin_graph.specs.State.{PartState, view_of}
use Rattle.kin_graph.specs.Deltas.{DeltaLists, no_change}
use Rattle.kin_graph.specs.Tells.{Tells}
use Rattle.kin_graph.proofs.Determined.{tells-law}
use Rattle.kin_blocks.specs.Snaps.{state_at}
use Rattle.kin_blocks.specs.Blocks.{IsOfStore, MayTake, pieces_applied}
use Rattle.kin_blocks.specs.Versions.{VersionsView, VersionState, IsVersions, CommitsNext, no_version, version_at, store_at, delta_at}
use Rattle.kin_blocks.specs.Versions.{released}
use Rattle.kin_blocks.proofs.Steps.{own-store, own-parts}
use Rattle.kin_blocks.proofs.Wholes.{join-law}
use Rattle.kin_blocks.proofs.Few.{few-said, few-vertices}
use Rattle.kin_held.specs.Chains.{ChainView, IsRun, chain_at, pieces_upto}
use Rattle.kin_held.specs.Takes.{IsPlace}
use Rattle.kin_held.proofs.Cuts.{IsRun-pieces_upto}
use Rattle.kin_held.proofs.Kept.{All-pieces_upto}
use Rattle.kin_table.specs.Vectors.{end_at, vector_at}
use Rattle.kin_table.specs.Tables.{agreed_of, cuts_of}
use Rattle.kin_hub.specs.Cores.{CoreView, IsCore, held_at}
use Rattle.kin_hub.specs.Lines.{IsHubPiece}
use Rattle.kin_hub.specs.Hubs.{HubView, KeepsEpoch, parts_in, nodes_in, chain_in, cuts_in, committed_in, next_ends, first_in, snap_in}
use Rattle.kin_hub.specs.Hubs.{store_in, deltas_in, delta_in}
use Rattle.kin_hub.specs.Stands.{Story, HubStands, HasStory}
use Rattle.kin_hub.specs.Goes.{HubKeeps}
use Rattle.kin_hub.specs.Commits.{epoch_pieces, CoreForgets, next_pieces, next_store, MayCommit, MayCommitLaw, FewVerticesLaw, Commits}
use Rattle.kin_hub.specs.Commits.{AreSnapshot, AreDeltas}
use Rattle.kin_ids.proofs.Rounds.{get_or-set}
use Rattle.kin_hub.proofs.Holding.{node-in}
use Rattle.kin_hub.proofs.Forgetting.{MayForget, forget-stands}
use Rattle.kin_hub.proofs.Applying.{of-store, nodes-part, All-epoch_pieces}
use Rattle.kin_hub.proofs.Storing.{snapshot-sound}

-- an end of a line whose stamps end within a feed lies within it
end-inside : (at len : ℕ) (ss : List Stamp) (v : ℕ) → at ≤ len → ((t : Stamp) → has ss t ≡ true → t.to ≤ len) → IsEnd at ss v → v ≤ len
end-inside at len [] v le inside e = omega arith
end-inside at len (s ∷ ss) v le inside e = ⊎_elim (λ (h : v ≡ at). omega arith)
    (λ (h : IsEnd s.to ss v). end-inside s.to len ss v (inside s (or_left (same_stamp s s) (has ss s) (same_stamp-refl s)))
    (λ t more. inside t (or_right (same_stamp s t) (has ss t) more)) h)
    e

count-low : (b : Bool) (n : ℕ) → count_here b n ≤ n
count-low true n = omega arith
count-low false n = omega arith

module _ (story : Story) (h : HubView) (s : HubStands story h) where
  -- vectors don't fall, and lie within the feeds
  pub rise : (i : ℕ) → i < length story.feeds → (j d : ℕ) → j + d ≤ cuts_in h → story.vectors j i ≤ story.vectors (j + d) i
  rise i i_lt j zero le = let same : j ≡ j + 0 = omega arith in subst (λ (k : ℕ). story.vectors j i ≤ story.vectors k i) same (omega arith)
  rise i i_lt j (suc d) le =
      let one = s.core.core.table.some in
      let less = rise i i_lt j d (omega arith) in
      let step = s.core.grow (j + d) i (omega arith) i_lt in
      let same : j + d + 1 ≡ j + suc d = omega arith in
      subst (λ (k : ℕ). story.vectors j i ≤ story.vectors k i) same (omega arith)

  pub do-not-fall : (k : ℕ) → k ≤ cuts_in h → DoNotFall story.feeds story.vectors k
  do-not-fall k le = record {
    start = s.core.start;
    grow = λ j i less i_lt. let one = s.core.core.table.some in s.core.grow j i (omega arith) i_lt;
  }

  pub inside : (k i : ℕ) → k ≤ cuts_in h → i < length story.feeds → story.vectors k i ≤ length (feed_at story.feeds i)
  inside k i le i_lt =
      let one = s.core.core.table.some in
      let line = s.core.each_line i i_lt in
      end-inside 0 (length (feed_at story.feeds i)) (story.lines i) (story.vectors k i) (omega arith)
      (λ t there. (line.stamps t there).transaction.inside) (s.core.ends k i (omega arith) i_lt).place

  module _ (p : ℕ) (p_lt : p < story.parts) (more : committed_in h p < cuts_in h) where
    abbrev Done : ℕ
    Done = committed_in h p

    abbrev Next : ℕ
    Next = committed_in h p + 1

    abbrev chain : ℕ → ChainView
    chain i = chain_in h p i

    next-in : Next < length h.core.table.vectors
    next-in = let one = s.core.core.table.some in omega arith

    pub end-is : (i : ℕ) → i < length story.feeds → (end_at (next_ends h p) i).to ≡ story.vectors Next i
    end-is i i_lt = (s.core.ends Next i next-in i_lt).to

    -- where the next vector is at a node, the partition's chain has a place
    place : (i : ℕ) → i < length story.feeds → IsPlace (chain i) (story.vectors Next i)
    place i i_lt =
        let ch = s.core.chains p i p_lt i_lt in
        let line = s.core.each_line i i_lt in
        let here = s.core.ends Next i next-in i_lt in
        let there = s.core.ends Done i (let a = next-in in omega arith) i_lt in
        let floor : (chain i).floor ≡ story.vectors Done i = s.stores.floors p i p_lt i_lt in
        let floor_end : IsEnd 0 (story.lines i) (chain i).floor = subst (IsEnd 0 (story.lines i)) (sym floor) there.place in
        let low = rise i i_lt Done 1 (omega arith) in
        let after : IsEnd (chain i).floor (past (chain i).floor (story.lines i)) (story.vectors Next i) =
        past_end 0 (chain i).floor (story.vectors Next i) (story.lines i) line.run floor_end here.place (omega arith) in
        subst (λ (ss : List Stamp). IsEnd (chain i).floor ss (story.vectors Next i))
        (upto-past (agreed_of h.core.table i) (stamps_of (chain i).held))
        (IsEnd-append (chain i).floor (upto (agreed_of h.core.table i) (stamps_of (chain i).held))
        (past (agreed_of h.core.table i) (stamps_of (chain i).held)) (story.vectors Next i)
        (subst (λ (ss : List Stamp). IsEnd (chain i).floor ss (story.vectors Next i)) (sym ch.whole) after))

    pub may-forget : (i : ℕ) → i < length story.feeds → MayForget h.core story.vectors p i (end_at (next_ends h p) i).to
    may-forget i i_lt =
        let is = end-is i i_lt in
        let rest : Next + (cuts_in h - Next) ≡ cuts_in h = omega arith in
        let high = rise i i_lt Next (cuts_in h - Next) (omega arith) in
        record {
          place = subst (IsPlace (chain i)) (sym is) (place i i_lt);
          agreed = let within = (s.core.ends Next i next-in i_lt).within in omega arith;
          cut = let last = ap (λ (k : ℕ). story.vectors k i) rest in omega arith;
        }

    runs : (i : ℕ) → i < length story.feeds → IsRun (story.vectors Done i) (pieces_upto (end_at (next_ends h p) i).to (chain i).held)
        (story.vectors Next i)
    runs i i_lt =
        subst (λ (b : ℕ). IsRun (story.vectors Done i) (pieces_upto b (chain i).held) (story.vectors Next i)) (sym (end-is i i_lt))
        (subst (λ (f : ℕ). IsRun f (pieces_upto (story.vectors Next i) (chain i).held) (story.vectors Next i))
        (s.stores.floors p i p_lt i_lt)
        (IsRun-pieces_upto (chain i).floor (story.vectors Next i) (chain i).top (chain i).held (s.core.chains p i p_lt i_lt).run
        (place i i_lt)))

    -- the next snapshot is the last one with the epoch's records
    next-snapshot : folded (snapshot story.feeds story.vectors Done) (of_epoch story.feeds Next (story.vectors Done) (story.vectors Next)
        (length story.feeds)) ≡ snapshot story.feeds story.vectors Next
    next-snapshot =
        let count : suc Done ≡ Next = omega arith in
        subst (λ (k : ℕ). folded (snapshot story.feeds story.vectors Done) (of_epoch story.feeds k (story.vectors Done) (story.vectors k)
        (length story.feeds)) ≡ snapshot story.feeds story.vectors k) count
        (sym (folded-append empty_graph (order story.feeds story.vectors Done) (of_epoch story.feeds (suc Done) (story.vectors Done)
        (story.vectors (suc Done)) (length story.feeds))))

    -- what the epoch's pieces make of the store
    pub next-part : IsPart story.parts p (snapshot story.feeds story.vectors Next) (next_store h p)
    next-part =
        subst (λ (n : ℕ). IsPart story.parts p (snapshot story.feeds story.vectors Next) (pieces_applied Next (view_of (store_in h p Done))
        (epoch_pieces (held_at h.core.helds p) (next_ends h p) n))) (sym s.core.nodes_are)
        (subst (λ (g : Graph). IsPart story.parts p g (pieces_applied Next (view_of (store_in h p Done))
        (epoch_pieces (held_at h.core.helds p) (next_ends h p) (length story.feeds)))) next-snapshot
        (nodes-part story.parts story.feeds p Next (held_at h.core.helds p) (next_ends h p) (story.vectors Done)
        (story.vectors Next) story.bases (λ i. (chain i).inc) (snapshot story.feeds story.vectors Done) (view_of (store_in h p Done))
        (length story.feeds) runs
        (λ i i_lt. All-pieces_upto (λ (x : Piece). IsHubPiece story.parts story.feeds p i (story.bases i) (chain i).inc x)
        (end_at (next_ends h p) i).to (chain i).held (s.core.chains p i p_lt i_lt).held)
        (s.stores.stores p Done p_lt (s.stores.versions.since p (let count = s.stores.parts_are in omega arith)) (omega arith))))

    -- the store may take them
    pub may-take : ((u : User) → (next_store h p).said u < 2 ^ 64) → MayTake Next (store_in h p Done) (next_pieces h p)
    may-take few = record {
      of_store = All-epoch_pieces (IsOfStore (store_in h p Done)) (held_at h.core.helds p) (next_ends h p) (nodes_in h)
          (λ i lt. let i_lt : i < length story.feeds = (let nodes = s.core.nodes_are in omega arith) in
          All-weaker (λ (x : Piece). IsHubPiece story.parts story.feeds p i (story.bases i) (chain i).inc x) (IsOfStore (store_in h p Done))
          (of-store story.parts story.feeds p i (story.bases i) (chain i).inc (store_in h p Done)
          (own-store h.versions s.stores.versions p (omega (arith, s.stores.parts_are)))
          (own-parts h.versions s.stores.versions p (omega (arith, s.stores.parts_are)) ∙ s.stores.parts_are))
          (pieces_upto (end_at (next_ends h p) i).to (chain i).held)
          (All-pieces_upto (λ (x : Piece). IsHubPiece story.parts story.feeds p i (story.bases i) (chain i).inc x)
          (end_at (next_ends h p) i).to (chain i).held (s.core.chains p i p_lt i_lt).held));
      said = few;
    }

    -- over feeds within the limits nobody is mentioned too often
    pub said-few : AreWithinLimits story.feeds → (u : User) → (next_store h p).said u < 2 ^ 64
    said-few limits u =
        let few = few-said story.feeds story.vectors limits Next (do-not-fall Next (omega arith))
        (λ i i_lt. inside Next i (omega arith) i_lt) u in
        let here = next-part.said u in
        let low = count-low (eqb (user_part story.parts u) p) (said (snapshot story.feeds story.vectors Next) u) in
        omega arith

    module _ (new : HubView) (c : Commits h p new) (core : IsCore new.core) (versions : IsVersions new.versions) where
      p_in : p < length h.versions.committed
      p_in = let count = s.stores.parts_are in omega arith

      committed-is : (q : ℕ) → committed_in new q ≡ cond (eqb p q) Next (committed_in h q)
      committed-is q = ap (λ (xs : List ℕ). get_or xs q 0) c.versions.puts.committed ∙ get_or-set h.versions.committed p q Next 0 p_in

      cuts-are : cuts_in new ≡ cuts_in h
      cuts-are = ap (λ (v : CoreView). cuts_of v.table) c.core.2

      held-is : (q : ℕ) → held_at new.core.helds q ≡ cond (eqb p q) c.core.0 (held_at h.core.helds q)
      held-is q = ap (λ (v : CoreView). held_at v.helds q) c.core.2
          ∙ get_or-set h.core.helds p q c.core.0 [] (let count = s.core.parts_are in omega arith)

      within_part : (q : ℕ) → q < story.parts → (b : Bool) → cond b Next (committed_in h q) ≤ cuts_in h
      within_part q q_lt true = omega arith
      within_part q q_lt false = s.stores.within q q_lt

      floor_part : (q i : ℕ) → q < story.parts → i < length story.feeds → (b : Bool) → eqb p q ≡ b
          → (chain_at (cond b c.core.0 (held_at h.core.helds q)) i).floor ≡ story.vectors (cond b Next (committed_in h q)) i
      floor_part q i q_lt i_lt true e = ap (λ (ch : ChainView). ch.floor) (c.core.1.each i (node-in story h.core s.core p i p_lt i_lt))
          ∙ end-is i i_lt
      floor_part q i q_lt i_lt false e = s.stores.floors q i q_lt i_lt

      -- a store that was there stays
      stays : (q k : ℕ) → q < story.parts → first_in h ≤ k → k ≤ committed_in h q
          → IsPart story.parts q (snapshot story.feeds story.vectors k) (view_of (store_in new q k))
      stays q k q_lt from to =
          subst (λ (t : PartState). IsPart story.parts q (snapshot story.feeds story.vectors k) (view_of t))
          (sym (c.versions.puts.stays q k (let count = s.stores.parts_are in omega arith) from to)) (s.stores.stores q k q_lt from to)

      -- and the new one is the epoch's
      put : IsPart story.parts p (snapshot story.feeds story.vectors Next) (view_of (store_in new p Next))
      put =
          subst (λ (t : PartState). IsPart story.parts p (snapshot story.feeds story.vectors Next) (view_of t)) (sym c.versions.puts.put)
          (subst (λ (v : PartView). IsPart story.parts p (snapshot story.feeds story.vectors Next) v) (sym c.versions.applied) next-part)

      store_part : (q k : ℕ) → q < story.parts → first_in h ≤ k → (b : Bool) → eqb p q ≡ b → k ≤ cond b Next (committed_in h q)
          → IsPart story.parts q (snapshot story.feeds story.vectors k) (view_of (store_in new q k))
      store_part q k q_lt from true e to =
          subst (λ (x : ℕ). IsPart story.parts x (snapshot story.feeds story.vectors k) (view_of (store_in new x k))) (eqb-true p q e)
          (⊎_elim (λ (low : k < Next). stays p k p_lt from (omega arith))
          (λ (high : Next ≤ k). let same : Next ≡ k = omega arith in
          subst (λ (j : ℕ). IsPart story.parts p (snapshot story.feeds story.vectors j) (view_of (store_in new p j))) same put)
          (cases_lt k Next))
      store_part q k q_lt from false e to = stays q k q_lt from to

      -- a delta that was there stays
      told_stays : (q k : ℕ) → q < story.parts → first_in h ≤ k → k ≤ committed_in h q
          → Tells story.parts q (snapshot story.feeds story.vectors (k - 1)) (snapshot story.feeds story.vectors k) (delta_in new q k)
      told_stays q k q_lt from to =
          subst (λ (d : DeltaLists). Tells story.parts q (snapshot story.feeds story.vectors (k - 1))
          (snapshot story.feeds story.vectors k) d) (sym (c.versions.puts.told_stays q k (let count = s.stores.parts_are in
          omega arith) from to)) (s.stores.deltas q k q_lt from to)

      -- and the new one tells of the epoch
      told : Tells story.parts p (snapshot story.feeds story.vectors (Next - 1)) (snapshot story.feeds story.vectors Next)
          (delta_in new p Next)
      told =
          let before : Next - 1 ≡ Done = omega arith in
          subst (λ (d : DeltaLists). Tells story.parts p (snapshot story.feeds story.vectors (Next - 1))
          (snapshot story.feeds story.vectors Next) d) (sym c.versions.puts.told)
          (subst (λ (k : ℕ). Tells story.parts p (snapshot story.feeds story.vectors k)
          (snapshot story.feeds story.vectors Next) c.versions.delta) (sym before)
          (tells-law story.parts p (snapshot story.feeds story.vectors Done) (snapshot story.feeds story.vectors Next)
          (view_of (store_in h p Done)) (view_of c.versions.store) c.versions.delta
          (snapshot-sound story.feeds story.vectors Done) (snapshot-sound story.feeds story.vectors Next)
          (s.stores.stores p Done p_lt (s.stores.versions.since p (let count = s.stores.parts_are in omega arith)) (omega arith))
          (subst (λ (v : PartView). IsPart story.parts p (snapshot story.feeds story.vectors Next) v) (sym c.versions.applied) next-part)
          c.versions.exact))

      told_part : (q k : ℕ) → q < story.parts → first_in h ≤ k → (b : Bool) → eqb p q ≡ b → k ≤ cond b Next (committed_in h q)
          → Tells story.parts q (snapshot story.feeds story.vectors (k - 1)) (snapshot story.feeds story.vectors k) (delta_in new q k)
      told_part q k q_lt from true e to =
          subst (λ (x : ℕ). Tells story.parts x (snapshot story.feeds story.vectors (k - 1)) (snapshot story.feeds story.vectors k)
          (delta_in new x k)) (eqb-true p q e)
          (⊎_elim (λ (low : k < Next). told_stays p k p_lt from (omega arith))
          (λ (high : Next ≤ k). let same : Next ≡ k = omega arith in
          subst (λ (j : ℕ). Tells story.parts p (snapshot story.feeds story.vectors (j - 1)) (snapshot story.feeds story.vectors j)
          (delta_in new p j)) same told)
          (cases_lt k Next))
      told_part q k q_lt from false e to = told_stays q k q_lt from to

      pub commit-stands : HubStands story new
      commit-stands = record {
        core = forget-stands story h.core s.core p (next_ends h p) new.core p_lt may-forget c.core core;
        stores = record {
          versions = versions;
          parts_are = ap (λ (xs : List ℕ). length xs) c.versions.puts.committed
              ∙ (length-set h.versions.committed p Next ∙ s.stores.parts_are);
          within = λ q q_lt. let is = committed-is q in let le = within_part q q_lt (eqb p q) in let cuts = cuts-are in omega arith;
          floors = λ q i q_lt i_lt. subst (λ (n : ℕ). (chain_in new q i).floor ≡ story.vectors n i) (sym (committed-is q))
              (subst (λ (held : List ChainView). (chain_at held i).floor ≡ story.vectors (cond (eqb p q) Next (committed_in h q)) i)
              (sym (held-is q)) (floor_part q i q_lt i_lt (eqb p q) refl));
          stores = λ q k q_lt from to. store_part q k q_lt (subst (λ (n : ℕ). n ≤ k) c.versions.puts.first from) (eqb p q) refl
              (subst (λ (n : ℕ). k ≤ n) (committed-is q) to);
          deltas = λ q k q_lt from to. told_part q k q_lt (subst (λ (n : ℕ). n ≤ k) c.versions.puts.first from) (eqb p q) refl
              (subst (λ (n : ℕ). k ≤ n) (committed-is q) to);
        };
      }

pub may-commit : MayCommitLaw
may-commit h p (story, s, limits) lt more u = said-few story h s p (let are = s.core.parts_are in omega arith) more limits u

pub few-law : FewVerticesLaw
few-law story h k s limits le = few-vertices story.feeds story.vectors limits k (do-not-fall story h s k le)
    (λ i i_lt. inside story h s k i le i_lt)

-- what a commit asks, of a hub that stands for something
pub may-apply : (h : HubView) (p : ℕ) → p < parts_in h → committed_in h p < cuts_in h → HasStory h → MayCommit h p
    → MayTake (committed_in h p + 1) (store_in h p (committed_in h p)) (next_pieces h p)
may-apply h p lt more (story, s) may = may-take story h s p (let are = s.core.parts_are in omega arith) more (may more)

pub may-drop : (h : HubView) (p last : ℕ) → p < parts_in h → last ≡ committed_in h p → last < cuts_in h → HasStory h → (i : ℕ)
    → i < nodes_in h → IsPlace (chain_in h p i) (end_at (vector_at h.core.table.vectors (last + 1)) i).to
may-drop h p last lt is more (story, s) i i_lt =
    subst (λ (n : ℕ). IsPlace (chain_in h p i) (end_at (vector_at h.core.table.vectors (n + 1)) i).to) (sym is)
    (may-forget story h s p (let are = s.core.parts_are in omega arith) (omega arith) i (let nodes = s.core.nodes_are in omega arith)).place

pub commits-of : (h : HubView) (p last : ℕ) (core : CoreView) (versions : VersionsView) → last ≡ committed_in h p
    → CoreForgets h.core p (vector_at h.core.table.vectors (last + 1)) core →
    CommitsNext h.versions p (next_pieces h p) versions → Commits h p (record { core = core; versions = versions })
commits-of h p last core versions is forgets next = record {
  core = subst (λ (n : ℕ). CoreForgets h.core p (vector_at h.core.table.vectors (n + 1)) core) is forgets;
  versions = next;
}

pub commit-keeps : (old : HubView) (p : ℕ) (new : HubView) → p < parts_in old → committed_in old p < cuts_in old → Commits old p new
    → IsCore new.core → IsVersions new.versions → HubKeeps old new
commit-keeps old p new lt more c core versions story s =
    commit-stands story old s p (let are = s.core.parts_are in omega arith) more new c core versions

-- The snapshot of an epoch that is kept is the graph of all records within its vector.
pub kept-snapshot : (h : HubView) (k : ℕ) → KeepsEpoch h k → AreSnapshot h k (snap_in h k)
kept-snapshot h k kept story s =
    let some = s.stores.versions.some in
    let are = s.stores.parts_are in
    let whole = kept.whole 0 some in
    let there = s.stores.versions.there 0 some in
    let since = kept.since in
    let count : length (snap_in h k) ≡ story.parts = (s.stores.versions.each (k - first_in h) (omega arith)).stores ∙ are in
    join-law (snap_in h k) (snapshot story.feeds story.vectors k) (s.stores.versions.each (k - first_in h) (omega arith)).snap
    (λ p lt. subst (λ (n : ℕ). IsPart n p (snapshot story.feeds story.vectors k) (view_of (store_in h p k))) (sym count)
    (s.stores.stores p k (omega arith) since (kept.whole p (omega arith))))

-- The deltas of an epoch that is kept tell of each partition what differs from the epoch before.
pub kept-deltas : (h : HubView) (k : ℕ) → HasStory h → KeepsEpoch h k → AreDeltas h k (deltas_in h k)
kept-deltas h k (any, known) kept = record {
  count =
      let some = known.stores.versions.some in
      let there = known.stores.versions.there 0 some in
      let whole = kept.whole 0 some in
      let since = kept.since in
      (known.stores.versions.each (k - first_in h) (omega arith)).deltas ∙ (known.stores.parts_are ∙ sym known.core.parts_are);
  tell = λ story p s p_lt. subst (λ (n : ℕ). Tells n p (snapshot story.feeds story.vectors (k - 1)) (snapshot story.feeds story.vectors k)
      (delta_in h p k)) (sym s.core.parts_are)
      (s.stores.deltas p k (omega (arith, s.core.parts_are)) kept.since
      (kept.whole p (omega (arith, s.core.parts_are, s.stores.parts_are))));
}

-- letting go of epochs leaves the later ones
module _ (v : VersionsView) (k j : ℕ) (le : max v.first k ≤ j) where
  released-version : version_at (released v k) j ≡ version_at v j
  released-version =
      let same : k - v.first + (j - max v.first k) ≡ j - v.first = ⊎_elim (λ (low : k < v.first). omega arith)
      (λ (high : v.first ≤ k). omega arith) (cases_lt k v.first) in
      get_or-drop (k - v.first) v.epochs (j - max v.first k) no_version ∙ ap (λ (n : ℕ). get_or v.epochs n no_version) same

  released-store : (p : ℕ) → store_at (released v k) p j ≡ store_at v p j
  released-store p = ap (λ (w : VersionState). state_at w.stores p) released-version

  released-delta : (p : ℕ) → delta_at (released v k) p j ≡ delta_at v p j
  released-delta p = ap (λ (w : VersionState). get_or w.deltas p no_change) released-version

pub release-keeps : (old : HubView) (k : ℕ) (versions : VersionsView) → versions ≡ released old.versions k → IsVersions versions
    → HubKeeps old (record old { versions = versions })
release-keeps old k versions is shape story s =
    subst (λ (v : VersionsView). HubStands story (record old { versions = v })) (sym is) (record {
      core = s.core;
      stores = record {
        versions = subst IsVersions is shape;
        parts_are = s.stores.parts_are;
        within = s.stores.within;
        floors = s.stores.floors;
        stores = λ p j p_lt from to. subst (λ (t : PartState). IsPart story.parts p (snapshot story.feeds story.vectors j) (view_of t))
            (sym (released-store old.versions k j from p)) (s.stores.stores p j p_lt (omega arith) to);
        deltas = λ p j p_lt from to. subst (λ (d : DeltaLists). Tells story.parts p (snapshot story.feeds story.vectors (j - 1))
            (snapshot story.feeds story.vectors j) d) (sym (released-delta old.versions k j from p))
            (s.stores.deltas p j p_lt (omega arith) to);
      };
    })
