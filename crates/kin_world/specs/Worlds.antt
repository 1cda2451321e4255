-- What contracts see of a world.
use Rattle.std.specs.Prelude.{ℕ, ◌≡◌, ◌<◌, ◌-◌, ◌^◌, Bool, true, List, length, slice_index_or}
use Rattle.kin_ids.specs.declared.ops.Record.{Record}
use Rattle.kin_ingest.specs.declared.ingests.Ingest.{Ingest}
use Rattle.kin_script.specs.declared.events.Event.{Event}
use Rattle.kin_script.specs.declared.outcomes.Outcome.{Outcome}
use Rattle.kin_script.specs.declared.events.Event.TheVariants as event
use Rattle.kin_script.specs.declared.outcomes.Outcome.TheVariants as outcome
use Rattle.kin_history.specs.Setting.{Setting}
use Rattle.kin_hub.specs.Hubs.{HubView, parts_in, nodes_in, cuts_in}
use Rattle.kin_mine.specs.Miners.{MinerView}
use Rattle.kin_world.specs.declared.sent_logs.Sent.{Sent}

-- The feeds by their records, the number of partitions, the nodes, the stamps that were made with their bases, the hub, and the miner; how
-- many epochs were mined, and whether the next one is open: begun and not yet mined.
pub record WorldView : Type 0 where
  pub feeds : List (List Record)
  pub parts : ℕ
  pub ingests : List Ingest
  pub sent : List Sent
  pub hub : HubView
  pub miner : MinerView
  pub mined : ℕ
  pub is_open : Bool

-- one node for each feed, of the hub too, and as many partitions in the hub
pub record IsWorld (w : WorldView) : Type 0 where
  pub nodes : length w.ingests ≡ length w.feeds
  pub hub_nodes : nodes_in w.hub ≡ length w.feeds
  pub hub_parts : parts_in w.hub ≡ w.parts

abbrev pub no_node : Ingest
no_node = record { id = record { 0 = 0 }; len = 0; inc = record { 0 = 0 }; base = 0; next = 0; up = true }

abbrev pub node_at : WorldView → ℕ → Ingest
node_at w i = slice_index_or w.ingests i no_node

-- what the world's events run over
abbrev pub setting_of : WorldView → Setting
setting_of w = record { feeds = w.feeds; parts = w.parts; landmarks = w.miner.landmarks }

-- the number of an epoch has 32 bits
abbrev pub HasRoom : WorldView → Event → Type 0
HasRoom w (event.Cut n) = cuts_in w.hub < 2 ^ 32 - 1
HasRoom w _ = Unit {0}

-- a refused event changes nothing
abbrev pub KeptWhereRefused : WorldView → Outcome → WorldView → Type 0
KeptWhereRefused old (outcome.Refused why) new = new ≡ old
KeptWhereRefused old _ new = Unit {0}
