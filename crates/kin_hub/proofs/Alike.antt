-- Vectors that are the same at every node, up to the last cut, stand alike.
use Rattle.std.proofs.Common.{◌≡◌, ℕ, ◌+◌, ◌-◌, ◌<◌, ◌∙◌, List, subst, arith, length}
use Rattle.kin_ids.specs.declared.ops.Record.{Record}
use Rattle.kin_ids.specs.declared.stamps.Stamp.{Stamp}
use Rattle.kin_ids.specs.Graph.{Graph}
use Rattle.kin_ids.specs.Order.{snapshot}
use Rattle.kin_ids.specs.Parts.{IsPart}
use Rattle.kin_ids.proofs.Alike.{snapshot-alike}
use Rattle.kin_graph.specs.State.{view_of}
use Rattle.kin_graph.specs.Tells.{Tells}
use Rattle.kin_table.specs.Vectors.{end_at, vector_at}
use Rattle.kin_table.specs.Tables.{agreed_of, cuts_of}
use Rattle.kin_hub.specs.Cores.{CoreView}
use Rattle.kin_hub.specs.Hubs.{HubView, committed_in, store_in, delta_in}
use Rattle.kin_hub.specs.Lines.{IsHubEnd}
use Rattle.kin_hub.specs.Stands.{Story, CoreStands, HubStands}

-- a story with other vectors
abbrev pub of_vectors : Story → (ℕ → ℕ → ℕ) → Story
of_vectors story V = record story { vectors = V }

module _ (story : Story) (V : ℕ → ℕ → ℕ) where
  core-alike : (c : CoreView) → ((k i : ℕ) → k < length c.table.vectors → i < length story.feeds → story.vectors k i ≡ V k i)
      → CoreStands story c → CoreStands (of_vectors story V) c
  core-alike c same s =
      let some = s.core.table.some in
      record {
        core = s.core;
        parts_are = s.parts_are;
        nodes_are = s.nodes_are;
        each_line = s.each_line;
        chains = s.chains;
        rows = s.rows;
        floors = λ p i p_lt i_lt. let low = s.floors p i p_lt i_lt in let e = same (cuts_of c.table) i (omega arith) i_lt in omega arith;
        start = λ i i_lt. let at = s.start i i_lt in let e = same 0 i some i_lt in omega arith;
        grow = λ k i k_lt i_lt. let le = s.grow k i k_lt i_lt in let a = same k i (omega arith) i_lt in let b = same (k + 1) i k_lt i_lt in
            omega arith;
        ends = λ k i k_lt i_lt. subst (λ (at : ℕ). IsHubEnd (story.lines i) (agreed_of c.table i) at
            (end_at (vector_at c.table.vectors k) i)) (same k i k_lt i_lt) (s.ends k i k_lt i_lt);
      }

  -- a hub that stands for the ones stands for the others
  pub hub-alike : (h : HubView) → ((k i : ℕ) → k < length h.core.table.vectors → i < length story.feeds → story.vectors k i ≡ V k i)
      → HubStands story h → HubStands (of_vectors story V) h
  hub-alike h same s =
      let some = s.core.core.table.some in
      record {
        core = core-alike h.core same s.core;
        stores = record {
          versions = s.stores.versions;
          parts_are = s.stores.parts_are;
          within = s.stores.within;
          floors = λ p i p_lt i_lt. let le = s.stores.within p p_lt in
              s.stores.floors p i p_lt i_lt ∙ same (committed_in h p) i (omega arith) i_lt;
          stores = λ p k p_lt from to. let le = s.stores.within p p_lt in
              subst (λ (g : Graph). IsPart story.parts p g (view_of (store_in h p k)))
              (snapshot-alike story.feeds story.vectors V k (λ j i j_le i_lt. same j i (omega arith) i_lt))
              (s.stores.stores p k p_lt from to);
          deltas = λ p k p_lt from to. let le = s.stores.within p p_lt in
              subst (λ (g : Graph). Tells story.parts p g (snapshot story.feeds V k) (delta_in h p k))
              (snapshot-alike story.feeds story.vectors V (k - 1) (λ j i j_le i_lt. same j i (omega arith) i_lt))
              (subst (λ (g : Graph). Tells story.parts p (snapshot story.feeds story.vectors (k - 1)) g (delta_in h p k))
              (snapshot-alike story.feeds story.vectors V k (λ j i j_le i_lt. same j i (omega arith) i_lt))
              (s.stores.deltas p k p_lt from to));
        };
      }
