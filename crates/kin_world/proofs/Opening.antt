-- A world before anything happened stands for no events.
use Rattle.std.proofs.Common.{◌≡◌, ℕ, ◌<◌, true, false, List, [], refl, sym, ◌∙◌, ap, subst, length, replicate}
use Rattle.std.proofs.lemmas.Bool.{false≢true}
use Rattle.std.proofs.lemmas.List.{get_or-replicate}
use Rattle.kin_ids.specs.declared.ids.User.{User}
use Rattle.kin_ids.specs.declared.ops.Record.{Record}
use Rattle.kin_ids.specs.Sizes.{AreWithinLimits}
use Rattle.kin_ingest.specs.declared.ingests.Ingest.{Ingest}
use Rattle.kin_history.specs.Setting.{Setting}
use Rattle.kin_held.specs.Chains.{ChainView, no_chain, chain_at}
use Rattle.kin_held.specs.ChainOf.{IsChainOf}
use Rattle.kin_table.specs.Tables.{RowView, no_report}
use Rattle.kin_hub.specs.Hubs.{HubView, chain_in, row_in, committed_in, first_in}
use Rattle.kin_hub.specs.Stands.{HubStands}
use Rattle.kin_hub.specs.Opens.{first_hub, first_story}
use Rattle.kin_ids.specs.Graph.{empty_graph}
use Rattle.kin_mine.specs.Miners.{MinerView, IsMinerOf, active_in}
use Rattle.kin_world.specs.Opens.{AreFirst}
use Rattle.kin_world.specs.Stands.{Stands}

no_chain-is : (nodes parts p i : ℕ) → p < parts → i < nodes → chain_in (first_hub nodes parts) p i ≡ no_chain
no_chain-is nodes parts p i p_lt i_lt =
    ap (λ (held : List ChainView). chain_at held i) (get_or-replicate parts p (replicate nodes no_chain) [] p_lt) ∙ get_or-replicate nodes i no_chain no_chain i_lt

no_row-is : (nodes parts p : ℕ) → p < parts → row_in (first_hub nodes parts) p ≡ no_report nodes
no_row-is nodes parts p p_lt = get_or-replicate parts p (no_report nodes) (no_report 0) p_lt

pub first-stands : (feeds : List (List Record)) (parts : ℕ) (landmarks : List User) (ingests : List Ingest) (hub : HubView) (miner : MinerView) → AreWithinLimits feeds → AreFirst feeds ingests → hub ≡ first_hub (length feeds) parts →
    HubStands (first_story feeds parts) hub → miner.landmarks ≡ landmarks → active_in miner ≡ [] → IsMinerOf empty_graph 0 miner →
    Stands (record { feeds = feeds; parts = parts; landmarks = landmarks }) (record { feeds = feeds; parts = parts; ingests = ingests; sent = []; hub = hub; miner = miner; mined = 0; is_open = false }) []
first-stands feeds parts landmarks ingests hub miner limits first is stands landmarks_are quiet mines = record {
  over = record {
    world = record { nodes = first.count; hub_nodes = stands.core.nodes_are; hub_parts = stands.core.parts_are };
    feeds = refl;
    parts = refl;
    landmarks = landmarks_are;
    limits = limits;
    history = tt;
  };
  nodes = record {
    ingests = first.each;
    stamps = refl;
  };
  partitions = record {
    chains = λ p i p_lt i_lt.
        subst (IsChainOf i 0 0 0 [] [] []) (sym (ap (λ (v : HubView). chain_in v p i) is ∙ no_chain-is (length feeds) parts p i p_lt i_lt))
        (record { floor = refl; inc = refl; held = refl; top = refl; early = λ s. refl });
    rows = λ p p_lt. ap (λ (v : HubView). (row_in v p).reported) is ∙ ap (λ (row : RowView). row.reported) (no_row-is (length feeds) parts p p_lt);
    row_incs = λ p i p_lt i_lt told. absurd (false≢true told);
    row_tops = λ p i p_lt i_lt told. absurd (false≢true told);
  };
  epochs = record {
    vectors = ap (λ (v : HubView). length v.core.table.vectors) is;
    committed_are = λ p p_lt. ap (λ (v : HubView). committed_in v p) is ∙ get_or-replicate parts p 0 0 p_lt;
    kept = ap (λ (v : HubView). first_in v) is;
    hub = stands;
  };
  mining = record { mined_is = refl; open_is = refl; miner = mines; quiet = λ _. quiet };
}
