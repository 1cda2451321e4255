-- A world stands for a history: node by node, partition by partition, epoch by epoch.
use Rattle.std.specs.Prelude.{ℕ, ◌≡◌, ◌<◌, ◌+◌, ◌⊎◌, true, false, if◌then◌else◌, List, [], ◌∷◌, length, slice_index}
use Rattle.kin_ids.specs.declared.stamps.Stamp.{Stamp}
use Rattle.kin_ids.specs.Lines.{upto, made_by, seen_in}
use Rattle.kin_ids.specs.Order.{snapshot}
use Rattle.kin_ids.specs.Sizes.{AreWithinLimits}
use Rattle.kin_ingest.specs.declared.ingests.Ingest.{Ingest}
use Rattle.kin_script.specs.declared.events.Event.{Event}
use Rattle.kin_script.specs.declared.events.Event.TheVariants as event
use Rattle.kin_script.specs.declared.outcomes.Outcome.{Outcome}
use Rattle.kin_history.specs.Setting.{Setting, nodes, feed_len, IsHistory}
use Rattle.kin_history.specs.Lines.{up, inc, line, next, sent, delivered, reported, has_reported, bases, base, top_in, seen, agreed}
use Rattle.kin_history.specs.Vectors.{cuts, vector, committed}
use Rattle.kin_history.specs.Mining.{mined, is_open}
use Rattle.kin_history.specs.Outcomes.{outcome_of}
use Rattle.kin_held.specs.ChainOf.{IsChainOf}
use Rattle.kin_table.specs.Tables.{inc_in}
use Rattle.kin_hub.specs.Hubs.{HubView, chain_in, row_in, committed_in, first_in}
use Rattle.kin_hub.specs.Stands.{Story, HubStands}
use Rattle.kin_mine.specs.Miners.{IsMinerOf, active_in}
use Rattle.kin_world.specs.declared.sent_logs.Sent.{Sent}
use Rattle.kin_world.specs.Worlds.{WorldView, IsWorld, node_at}

-- a node after a history
abbrev pub node_of : Setting → List Event → ℕ → Ingest
node_of set h i = record {
  id = record { 0 = i };
  len = feed_len set i;
  inc = record { 0 = inc set h i };
  base = base set h i (inc set h i);
  next = next set h i;
  up = up set h i;
}

-- stamps with the bases of their incarnations
abbrev pub with_bases : (ℕ → List ℕ) → List Stamp → List Sent
with_bases bases [] = []
with_bases bases (s ∷ ss) = record { stamp = s; base = slice_index (bases s.ingest.0) s.inc.0 } ∷ with_bases bases ss

-- the line of a node up to its agreed position
abbrev pub agreed_line : Setting → List Event → ℕ → List Stamp
agreed_line set h i = upto (agreed set h i) (line set h i)

-- what a history tells a hub
abbrev pub story_of : Setting → List Event → Story
story_of set h = record { parts = set.parts; feeds = set.feeds; lines = agreed_line set h; bases = bases set h; vectors = vector set h }

-- the epoch that was begun last, 0 where none was
abbrev pub last_begun : Setting → List Event → ℕ
last_begun set h = if is_open set h then mined set h + 1 else mined set h

-- The world is of this setting, whose feeds are within the limits, and the events are in range.
pub record IsOver (set : Setting) (w : WorldView) (h : List Event) : Type 0 where
  pub world : IsWorld w
  pub feeds : w.feeds ≡ set.feeds
  pub parts : w.parts ≡ set.parts
  pub landmarks : w.miner.landmarks ≡ set.landmarks
  pub limits : AreWithinLimits set.feeds
  pub history : IsHistory set h

-- Each node is as the history says, and the stamps are all that were made, in order, with their bases.
pub record NodesStand (set : Setting) (w : WorldView) (h : List Event) : Type 0 where
  pub ingests : (i : ℕ) → i < nodes set → node_at w i ≡ node_of set h i
  pub stamps : w.sent ≡ with_bases (bases set h) (sent set h)

-- Each partition keeps the greatest incarnation that came. Its chain has the line up to that incarnation's base, and then the longest run
-- of its stamps that all came, from the floor on: the vector that the partition has committed. Each row has what that incarnation and the
-- chain's top were at the partition's last report.
pub record PartitionsStand (set : Setting) (w : WorldView) (h : List Event) : Type 0 where
  pub chains : (p i : ℕ) → p < set.parts → i < nodes set →
      IsChainOf i (seen set h p i) (base set h i (seen set h p i)) (vector set h (committed set h p) i) (delivered set h p)
      (upto (base set h i (seen set h p i)) (line set h i)) (made_by i (seen set h p i) (sent set h)) (chain_in w.hub p i)
  pub rows : (p : ℕ) → p < set.parts → (row_in w.hub p).reported ≡ has_reported set h p
  pub row_incs : (p i : ℕ) → p < set.parts → i < nodes set → has_reported set h p ≡ true →
      inc_in (row_in w.hub p).incs i ≡ seen_in (reported set h p) i
  pub row_tops : (p i : ℕ) → p < set.parts → i < nodes set → has_reported set h p ≡ true →
      slice_index (row_in w.hub p).tops i ≡ top_in set (reported set h p) h i (seen_in (reported set h p) i)

-- There is a vector of each cut, each partition has committed what the history says, and no epoch from the last mined one on was let go.
-- The hub stands for what the history tells it.
pub record EpochsStand (set : Setting) (w : WorldView) (h : List Event) : Type 0 where
  pub vectors : length w.hub.core.table.vectors ≡ cuts set h + 1
  pub committed_are : (p : ℕ) → p < set.parts → committed_in w.hub p ≡ committed set h p
  pub kept : first_in w.hub ≡ mined set h
  pub hub : HubStands (story_of set h) w.hub

-- As many epochs were mined as the history says, and one is open where it says so. The miner stands for the epoch that was begun last, of
-- the graph of all records within that epoch's vector; and nobody is active where no epoch is open.
pub record MiningStands (set : Setting) (w : WorldView) (h : List Event) : Type 0 where
  pub mined_is : w.mined ≡ mined set h
  pub open_is : w.is_open ≡ is_open set h
  pub miner : IsMinerOf (snapshot set.feeds (vector set h) (last_begun set h)) (last_begun set h) w.miner
  pub quiet : is_open set h ≡ false → active_in w.miner ≡ []

-- The world stands for a history.
pub record Stands (set : Setting) (w : WorldView) (h : List Event) : Type 0 where
  pub over : IsOver set w h
  pub nodes : NodesStand set w h
  pub partitions : PartitionsStand set w h
  pub epochs : EpochsStand set w h
  pub mining : MiningStands set w h

-- it stands for some history
abbrev pub HasHistory : WorldView → Type 0
HasHistory w = (set : Setting) × (h : List Event) × Stands set w h

-- After an event with this answer the world stands for each history that it stood for, with the event; and the answer is the one that
-- the history gives.
abbrev pub Keeps : WorldView → Event → Outcome → WorldView → Type 0
Keeps old e o new = (set : Setting) (h : List Event) → Stands set old h → (o ≡ outcome_of set h e) × Stands set new (e ∷ h)

-- The world stands for each history that it stood for, or for it with a Begin.
abbrev pub KeepsOrBegins : WorldView → WorldView → Type 0
KeepsOrBegins old new = (set : Setting) (h : List Event) → Stands set old h → Stands set new h ⊎ Stands set new (event.Begin ∷ h)

-- What want of memory leaves: the world as before. But a Mine may have begun its epoch and made some turns.
abbrev pub KeptAtMemory : WorldView → Event → WorldView → Type 0
KeptAtMemory old event.Mine new = KeepsOrBegins old new
KeptAtMemory old _ new = new ≡ old
