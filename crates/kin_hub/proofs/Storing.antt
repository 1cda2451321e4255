-- The stores stand on where the core of a hub changes.
use Rattle.std.proofs.Common.{◌≡◌, ℕ, ◌+◌, ◌-◌, ◌*◌, ◌<◌, ◌≤◌, Bool, true, false, cond, eqb, List, [], refl, sym, ◌∙◌, ap, subst, arith}
use Rattle.std.proofs.Common.{length}
use Rattle.std.proofs.lemmas.Bool.{eqb-true, ne_eqb}
use Rattle.std.proofs.lemmas.List.{length_push, length-replicate, get_or-replicate}
use Rattle.kin_ids.specs.declared.ops.Record.{Record}
use Rattle.kin_ids.specs.declared.ops.Piece.{Piece}
use Rattle.kin_ids.specs.declared.stamps.End.{End}
use Rattle.std.specs.List.Sorted.{IsPermutation}
use Rattle.kin_ids.specs.declared.ids.User.{User}
use Rattle.kin_ids.specs.Parting.{user_part, tag_part}
use Rattle.kin_ids.specs.Graph.{Graph, empty_graph, mentions_of, mentioners_of, uses_of, tag_users}
use Rattle.kin_ids.specs.Order.{order, snapshot}
use Rattle.kin_ids.specs.Follows.{IsSound}
use Rattle.kin_ids.proofs.Once.{folded-sound}
use Rattle.kin_ids.proofs.Alike.{snapshot-alike}
use Rattle.kin_ids.specs.Parts.{IsPart, if_here}
use Rattle.kin_ids.proofs.Shares.{empty-law}
use Rattle.kin_store.specs.Blocks.{page, pages, empty_blocks}
use Rattle.kin_store.proofs.Empties.{blocks-are, no-row, no-users}
use Rattle.kin_graph.specs.Rows.{UserRow, no_row}
use Rattle.kin_graph.specs.State.{PartState, empty_part, row_of, view_of}
use Rattle.kin_graph.specs.Deltas.{DeltaLists, no_change}
use Rattle.kin_graph.specs.Tells.{Tells}
use Rattle.kin_graph.proofs.Determined.{no_change-law}
use Rattle.kin_blocks.specs.Snaps.{empty_stores}
use Rattle.kin_blocks.proofs.Empties.{state_at-empty, length-empty_stores}
use Rattle.kin_blocks.specs.Versions.{IsVersions, first_versions}
use Rattle.kin_held.specs.Chains.{ChainView, chain_at, no_chain}
use Rattle.kin_held.specs.declared.answers.Taken.{Taken}
use Rattle.kin_held.proofs.Kept.{takes-all}
use Rattle.kin_table.specs.Tables.{cuts_of}
use Rattle.kin_hub.specs.Cores.{CoreView, CoreTakes, held_at, chain_of, with_cut}
use Rattle.kin_hub.specs.Cuts.{with_next}
use Rattle.kin_hub.specs.Hubs.{HubView, chain_in, cuts_in, committed_in, store_in, delta_in}
use Rattle.kin_hub.specs.Opens.{first_hub, no_vectors}
use Rattle.kin_hub.specs.Stands.{StoresStand}
use Rattle.kin_ids.proofs.Rounds.{get_or-set}

-- where no floor moves and no fewer epochs are cut
pub stores-go : (parts : ℕ) (feeds : List (List Record)) (vectors : ℕ → ℕ → ℕ) (old : HubView) (core : CoreView)
    → StoresStand parts feeds vectors old → cuts_in old ≤ cuts_of core.table →
    ((p i : ℕ) → p < parts → i < length feeds → (chain_of core p i).floor ≡ (chain_in old p i).floor)
    → StoresStand parts feeds vectors (record old { core = core })
stores-go parts feeds vectors old core s more same = record {
  versions = s.versions;
  parts_are = s.parts_are;
  within = λ p lt. let le = s.within p lt in omega arith;
  floors = λ p i p_lt i_lt. same p i p_lt i_lt ∙ s.floors p i p_lt i_lt;
  stores = s.stores;
  deltas = s.deltas;
}

-- taking a piece moves no floor
module _ (old : CoreView) (x : Piece) (t : Taken) (new : CoreView) (takes : CoreTakes old x t new) (q_lt : x.part.0 < length old.helds)
    (n_lt : x.stamp.ingest.0 < length (held_at old.helds x.part.0)) where
  node_floor : (i : ℕ) (b : Bool) → eqb x.stamp.ingest.0 i ≡ b → (cond b takes.1.0 (chain_of old x.part.0 i)).floor
      ≡ (chain_of old x.part.0 i).floor
  node_floor i true e =
      let kept = takes-all (λ (y : Piece). Unit {0}) (chain_of old x.part.0 x.stamp.ingest.0) x t takes.1.0 (λ k d lt. tt)
      (λ k d lt. tt) tt takes.1.1 in
      kept.floor ∙ ap (λ (k : ℕ). (chain_of old x.part.0 k).floor) (eqb-true _ _ e)
  node_floor i false e = refl

  own_floor : (i : ℕ) → (chain_at takes.0 i).floor ≡ (chain_of old x.part.0 i).floor
  own_floor i =
      ap (λ (cs : List ChainView). (chain_at cs i).floor) takes.1.2
      ∙ (ap (λ (c : ChainView). c.floor) (get_or-set (held_at old.helds x.part.0) x.stamp.ingest.0 i takes.1.0 no_chain n_lt)
      ∙ node_floor i (eqb x.stamp.ingest.0 i) refl)

  part_floor : (p i : ℕ) (b : Bool) → eqb x.part.0 p ≡ b → (chain_at (cond b takes.0 (held_at old.helds p)) i).floor
      ≡ (chain_of old p i).floor
  part_floor p i true e = own_floor i ∙ ap (λ (k : ℕ). (chain_of old k i).floor) (eqb-true _ _ e)
  part_floor p i false e = refl

  pub take-floor : (p i : ℕ) → (chain_of new p i).floor ≡ (chain_of old p i).floor
  take-floor p i =
      ap (λ (c : CoreView). (chain_of c p i).floor) takes.2
      ∙ (ap (λ (held : List ChainView). (chain_at held i).floor) (get_or-set old.helds x.part.0 p takes.0 [] q_lt)
      ∙ part_floor p i (eqb x.part.0 p) refl)

-- one more vector changes no snapshot that there is
module _ (vectors : ℕ → ℕ → ℕ) (number : ℕ) (next : ℕ → ℕ) where
  pub next-before : (k : ℕ) → k < number → with_next vectors number next k ≡ vectors k
  next-before k lt = ap (λ (b : Bool). λ (i : ℕ). cond b (next i) (vectors k i)) (ne_eqb k number (λ e. absurd (omega arith)))

  pub snapshot-before : (feeds : List (List Record)) (k : ℕ) → k < number → snapshot feeds (with_next vectors number next) k
      ≡ snapshot feeds vectors k
  snapshot-before feeds k lt = snapshot-alike feeds (with_next vectors number next) vectors k
      (λ j i le i_lt. ap (λ (f : ℕ → ℕ). f i) (next-before j (omega arith)))

pub cut-stores : (parts : ℕ) (feeds : List (List Record)) (vectors : ℕ → ℕ → ℕ) (old : HubView) (next : ℕ → ℕ) (ends : List End)
    → StoresStand parts feeds vectors old →
    StoresStand parts feeds (with_next vectors (cuts_in old + 1) next) (record old { core = with_cut old.core ends })
cut-stores parts feeds vectors old next ends s =
    let more = length_push old.core.table.vectors ends in
    record {
      versions = s.versions;
      parts_are = s.parts_are;
      within = λ p lt. let le = s.within p lt in omega arith;
      floors = λ p i p_lt i_lt. let le = s.within p p_lt in
          s.floors p i p_lt i_lt ∙ sym (ap (λ (f : ℕ → ℕ). f i) (next-before vectors (cuts_in old + 1) next (committed_in old p)
          (omega arith)));
      stores = λ p k p_lt from to. let le = s.within p p_lt in
          subst (λ (g : Graph). IsPart parts p g (view_of (store_in old p k)))
          (sym (snapshot-before vectors (cuts_in old + 1) next feeds k (omega arith))) (s.stores p k p_lt from to);
      deltas = λ p k p_lt from to. let le = s.within p p_lt in
          subst (λ (g : Graph). Tells parts p g (snapshot feeds (with_next vectors (cuts_in old + 1) next) k) (delta_in old p k))
          (sym (snapshot-before vectors (cuts_in old + 1) next feeds (k - 1) (omega arith)))
          (subst (λ (g : Graph). Tells parts p (snapshot feeds vectors (k - 1)) g (delta_in old p k))
          (sym (snapshot-before vectors (cuts_in old + 1) next feeds k (omega arith))) (s.deltas p k p_lt from to));
    }

-- every snapshot has each edge, mention and first use once
pub snapshot-sound : (feeds : List (List Record)) (vectors : ℕ → ℕ → ℕ) (k : ℕ) → IsSound (snapshot feeds vectors k)
snapshot-sound feeds vectors k = folded-sound empty_graph (order feeds vectors k) (record { edges = tt; mentions = tt; uses = tt })

-- a store in which nothing is has its part of the empty graph
module _ (parts p : ℕ) where
  some : 0 < page * pages
  some = omega arith

  no-row-of : (u : User) → row_of (empty_part p parts) u ≡ no_row
  no-row-of u = no-row p parts (page * pages) empty_blocks blocks-are some u

  empty-is : IsPart parts p empty_graph (view_of (empty_part p parts))
  empty-is =
      let e = empty-law parts p in
      record {
        out = λ u. ap (λ (r : UserRow). r.out) (no-row-of u) ∙ e.out u;
        inn = λ u. ap (λ (r : UserRow). r.inn) (no-row-of u) ∙ e.inn u;
        mentions = λ u. subst (λ (r : UserRow). IsPermutation r.mentions (if_here (eqb (user_part parts u) p) (mentions_of empty_graph u)))
            (sym (no-row-of u)) (e.mentions u);
        mentioners = λ u. subst (λ (r : UserRow). IsPermutation r.mentioners
            (if_here (eqb (user_part parts u) p) (mentioners_of empty_graph u))) (sym (no-row-of u)) (e.mentioners u);
        said = λ u. ap (λ (r : UserRow). r.said) (no-row-of u) ∙ e.said u;
        uses = λ u. subst (λ (r : UserRow). IsPermutation r.uses (if_here (eqb (user_part parts u) p) (uses_of empty_graph u)))
            (sym (no-row-of u)) (e.uses u);
        tag_users = λ t. subst (λ (us : List User). IsPermutation us (if_here (eqb (tag_part parts t) p) (tag_users empty_graph t)))
            (sym (no-users p parts (page * pages) empty_blocks blocks-are some t)) (e.tag_users t);
      }

-- before anything came
module _ (nodes parts : ℕ) (feeds : List (List Record)) where
  first_store : (p k : ℕ) → p < parts → k ≡ 0 → IsPart parts p (snapshot feeds no_vectors k)
      (view_of (store_in (first_hub nodes parts) p k))
  first_store p k lt none = subst (λ (j : ℕ). IsPart parts p (snapshot feeds no_vectors j) (view_of (store_in (first_hub nodes parts) p j)))
      (sym none)
      (subst (λ (s : PartState). IsPart parts p empty_graph (view_of s)) (sym (state_at-empty parts p lt)) (empty-is parts p))

  first_delta : (p k : ℕ) → p < parts → k ≡ 0 → Tells parts p (snapshot feeds no_vectors (k - 1)) (snapshot feeds no_vectors k)
      (delta_in (first_hub nodes parts) p k)
  first_delta p k lt none =
      let is : delta_in (first_hub nodes parts) p k ≡ no_change = ap (λ (j : ℕ). delta_in (first_hub nodes parts) p j) none
      ∙ get_or-replicate (length (empty_stores parts)) p no_change no_change (omega (arith, length-empty_stores parts)) in
      let before : k - 1 ≡ k = omega arith in
      subst (λ (d : DeltaLists). Tells parts p (snapshot feeds no_vectors (k - 1)) (snapshot feeds no_vectors k) d) (sym is)
      (subst (λ (j : ℕ). Tells parts p (snapshot feeds no_vectors j) (snapshot feeds no_vectors k) no_change) (sym before)
      (no_change-law parts p (snapshot feeds no_vectors k) (snapshot-sound feeds no_vectors k)))

  pub first-stores : IsVersions (first_versions parts) → ((p i : ℕ) → p < parts → (chain_in (first_hub nodes parts) p i).floor ≡ 0)
      → StoresStand parts feeds no_vectors (first_hub nodes parts)
  first-stores versions zeros = record {
    versions = versions;
    parts_are = length-replicate parts 0;
    within = λ p lt. let none = none_yet p lt in omega arith;
    floors = λ p i p_lt i_lt. zeros p i p_lt;
    stores = λ p k lt from to. let none = none_yet p lt in first_store p k lt (omega arith);
    deltas = λ p k lt from to. let none = none_yet p lt in first_delta p k lt (omega arith);
  }
    where
      none_yet : (p : ℕ) → p < parts → committed_in (first_hub nodes parts) p ≡ 0
      none_yet p lt = get_or-replicate parts p 0 0 lt
