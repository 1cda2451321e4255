-- A report.
use Rattle.std.proofs.Common.{◌≡◌, ℕ, ◌<◌, Bool, true, false, cond, eqb, List, [], ◌∷◌, refl, sym, ◌∙◌, ap, subst, arith, get_or, length, map}
use Rattle.std.specs.Prelude.{All}
use Rattle.std.proofs.lemmas.Bool.{eqb-true}
use Rattle.std.proofs.lemmas.List.{get_or-map}
use Rattle.kin_ids.specs.declared.ids.Inc.{Inc}
use Rattle.kin_ids.specs.declared.ids.PartId.{PartId}
use Rattle.kin_ids.specs.Lines.{seen_in}
use Rattle.kin_ids.proofs.Rounds.{get_or-set}
use Rattle.kin_script.specs.declared.events.Event.{Event}
use Rattle.kin_script.specs.declared.events.Event.TheVariants as event
use Rattle.kin_script.specs.declared.outcomes.Outcome.TheVariants as outcome
use Rattle.kin_history.specs.Setting.{Setting, nodes}
use Rattle.kin_history.specs.Lines.{delivered, reported, has_reported, top_in}
use Rattle.kin_held.specs.Chains.{ChainView, no_chain}
use Rattle.kin_table.specs.Tables.{RowView, row_at, inc_in}
use Rattle.kin_hub.specs.Cores.{held_at, kept_inc, row_of, with_report}
use Rattle.kin_hub.specs.Hubs.{HubView, row_in}
use Rattle.kin_hub.specs.Goes.{HubKeeps}
use Rattle.kin_world.specs.Worlds.{WorldView}
use Rattle.kin_world.specs.Stands.{Stands, Keeps}
use Rattle.kin_world.proofs.Facts.{node_in, part_in}

abbrev reported_hub : HubView → ℕ → HubView
reported_hub hub p = record hub { core = with_report hub.core p }

module _ (set : Setting) (w : WorldView) (h : List Event) (s : Stands set w h) (p : PartId) (lt : p.0 < set.parts) where
  held : List ChainView
  held = held_at w.hub.core.helds p.0

  at_row : (q : ℕ) → row_in (reported_hub w.hub p.0) q ≡ cond (eqb p.0 q) (row_of (held_at w.hub.core.helds p.0)) (row_in w.hub q)
  at_row q =
      let rows = s.epochs.hub.core.core.parts in
      let parts = s.epochs.hub.core.parts_are in
      get_or-set w.hub.core.table.rows p.0 q _ _ (omega arith)

  within : (i : ℕ) → i < nodes set → i < length (held_at w.hub.core.helds p.0)
  within i i_lt =
      let parts = s.epochs.hub.core.parts_are in
      let count = s.epochs.hub.core.nodes_are in
      let chains = s.epochs.hub.core.core.chains p.0 [] (omega arith) in
      omega arith

  at_reported : (b : Bool) (row : RowView) (was : Bool) → row.reported ≡ was → (cond b (row_of (held_at w.hub.core.helds p.0)) row).reported ≡ cond b true was
  at_reported true row was e = refl
  at_reported false row was e = e

  at_incs : (q i : ℕ) → q < set.parts → i < nodes set → (b : Bool) → eqb p.0 q ≡ b → cond b true (has_reported set h q) ≡ true →
      inc_in (cond b (row_of (held_at w.hub.core.helds p.0)) (row_in w.hub q)).incs i ≡ seen_in (cond b (delivered set h q) (reported set h q)) i
  at_incs q i q_lt i_lt true e told =
      ap (λ (c : Inc). c.0) (get_or-map kept_inc (held_at w.hub.core.helds p.0) i no_chain _ (within i i_lt))
      ∙ ((s.partitions.chains p.0 i lt i_lt).inc ∙ ap (λ (k : ℕ). seen_in (delivered set h k) i) (eqb-true p.0 q e))
  at_incs q i q_lt i_lt false e told = s.partitions.row_incs q i q_lt i_lt told

  at_tops : (q i : ℕ) → q < set.parts → i < nodes set → (b : Bool) → eqb p.0 q ≡ b → cond b true (has_reported set h q) ≡ true →
      get_or (cond b (row_of (held_at w.hub.core.helds p.0)) (row_in w.hub q)).tops i 0
      ≡ top_in set (cond b (delivered set h q) (reported set h q)) h i (seen_in (cond b (delivered set h q) (reported set h q)) i)
  at_tops q i q_lt i_lt true e told =
      get_or-map (λ (chain : ChainView). chain.top) (held_at w.hub.core.helds p.0) i no_chain 0 (within i i_lt)
      ∙ ((s.partitions.chains p.0 i lt i_lt).top ∙ ap (λ (k : ℕ). top_in set (delivered set h k) h i (seen_in (delivered set h k) i)) (eqb-true p.0 q e))
  at_tops q i q_lt i_lt false e told = s.partitions.row_tops q i q_lt i_lt told

  pub report-stands : HubKeeps w.hub (reported_hub w.hub p.0) → Stands set (record w { hub = reported_hub w.hub p.0 }) (event.Report p ∷ h)
  report-stands keeps = record {
    over = record {
      world = record { nodes = s.over.world.nodes; hub_nodes = s.over.world.hub_nodes; hub_parts = s.over.world.hub_parts };
      feeds = s.over.feeds;
      parts = s.over.parts;
      landmarks = s.over.landmarks;
      limits = s.over.limits;
      history = (lt, s.over.history);
    };
    nodes = record { ingests = s.nodes.ingests; stamps = s.nodes.stamps };
    partitions = record {
      chains = s.partitions.chains;
      rows = λ q q_lt. ap (λ (row : RowView). row.reported) (at_row q) ∙ at_reported (eqb p.0 q) (row_in w.hub q) (has_reported set h q) (s.partitions.rows q q_lt);
      row_incs = λ q i q_lt i_lt told. ap (λ (row : RowView). inc_in row.incs i) (at_row q) ∙ at_incs q i q_lt i_lt (eqb p.0 q) refl told;
      row_tops = λ q i q_lt i_lt told. ap (λ (row : RowView). get_or row.tops i 0) (at_row q) ∙ at_tops q i q_lt i_lt (eqb p.0 q) refl told;
    };
    epochs = record {
      vectors = s.epochs.vectors;
      committed_are = s.epochs.committed_are;
      kept = s.epochs.kept;
      hub = keeps _ s.epochs.hub;
    };
    mining = record { mined_is = s.mining.mined_is; open_is = s.mining.open_is; miner = s.mining.miner; quiet = s.mining.quiet };
  }

pub report-keeps : (old : WorldView) (p : PartId) (hub : HubView) → p.0 < old.parts → hub ≡ reported_hub old.hub p.0 → HubKeeps old.hub hub → Keeps old (event.Report p) outcome.Reported (record old { hub = hub })
report-keeps old p hub lt is keeps set h s = (
  refl,
  subst (λ (v : HubView). Stands set (record old { hub = v }) (event.Report p ∷ h)) (sym is)
      (report-stands set old h s p (part_in set old h s p.0 lt) (subst (HubKeeps old.hub) is keeps)),
)
