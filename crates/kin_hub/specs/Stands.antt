-- What a hub stands for, apart from any history: feeds, agreed lines, the bases of the incarnations, and vectors.
use Rattle.std.specs.Prelude.{ℕ, ◌≡◌, ◌<◌, ◌≤◌, ◌+◌, ◌-◌, true, List, length}
use Rattle.kin_ids.specs.declared.stamps.Stamp.{Stamp}
use Rattle.kin_ids.specs.declared.ops.Record.{Record}
use Rattle.kin_ids.specs.Order.{feed_at, snapshot}
use Rattle.kin_ids.specs.Parts.{IsPart}
use Rattle.kin_graph.specs.State.{view_of}
use Rattle.kin_graph.specs.Tells.{Tells}
use Rattle.kin_blocks.specs.Versions.{IsVersions}
use Rattle.kin_table.specs.Vectors.{end_at, vector_at}
use Rattle.kin_table.specs.Tables.{row_at, agreed_of, inc_of, cuts_of}
use Rattle.kin_hub.specs.Cores.{CoreView, IsCore, chain_of}
use Rattle.kin_hub.specs.Hubs.{HubView, chain_in, cuts_in, committed_in, first_in, store_in, delta_in}
use Rattle.kin_hub.specs.Lines.{IsHubLine, IsHubChain, IsHubRow, IsHubEnd}

-- What a hub stands for, apart from any history: the number of partitions, and the feeds by their records; of each node the line of its
-- agreed stamps, and where each of its incarnations began; and where each vector ends a node, vector 0 at zeros.
pub record Story : Type 0 where
  pub parts : ℕ
  pub feeds : List (List Record)
  pub lines : ℕ → List Stamp
  pub bases : ℕ → List ℕ
  pub vectors : ℕ → ℕ → ℕ

-- The core stands for a story. No floor is above the last vector.
pub record CoreStands (story : Story) (c : CoreView) : Type 0 where
  pub core : IsCore c
  pub parts_are : length c.helds ≡ story.parts
  pub nodes_are : length c.table.agreed ≡ length story.feeds
  pub each_line : (i : ℕ) → i < length story.feeds
      → IsHubLine (length (feed_at story.feeds i)) i (story.lines i) (story.bases i) (inc_of c.table i) (agreed_of c.table i)
  pub chains : (p i : ℕ) → p < story.parts → i < length story.feeds
      → IsHubChain story.parts story.feeds p i (story.lines i) (story.bases i) (inc_of c.table i) (agreed_of c.table i) (chain_of c p i)
  pub rows : (p i : ℕ) → p < story.parts → i < length story.feeds → (row_at c.table.rows p).reported ≡ true
      → IsHubRow i (inc_of c.table i) (agreed_of c.table i) (chain_of c p i) (row_at c.table.rows p)
  pub floors : (p i : ℕ) → p < story.parts → i < length story.feeds → (chain_of c p i).floor ≤ story.vectors (cuts_of c.table) i
  pub start : (i : ℕ) → i < length story.feeds → story.vectors 0 i ≡ 0
  pub grow : (k i : ℕ) → k + 1 < length c.table.vectors → i < length story.feeds → story.vectors k i ≤ story.vectors (k + 1) i
  pub ends : (k i : ℕ) → k < length c.table.vectors → i < length story.feeds
      → IsHubEnd (story.lines i) (agreed_of c.table i) (story.vectors k i) (end_at (vector_at c.table.vectors k) i)

-- The stores stand for these feeds and vectors: no partition has committed more than is cut; its floors are where the last vector that
-- it has committed is; its store at each epoch that it has committed, from the first kept one on, is its part of the graph of all records
-- within that vector; and its delta of the epoch tells exactly what differs from the vector before.
pub record StoresStand (parts : ℕ) (feeds : List (List Record)) (vectors : ℕ → ℕ → ℕ) (h : HubView) : Type 0 where
  pub versions : IsVersions h.versions
  pub parts_are : length h.versions.committed ≡ parts
  pub within : (p : ℕ) → p < parts → committed_in h p ≤ cuts_in h
  pub floors : (p i : ℕ) → p < parts → i < length feeds → (chain_in h p i).floor ≡ vectors (committed_in h p) i
  pub stores : (p k : ℕ) → p < parts → first_in h ≤ k → k ≤ committed_in h p
      → IsPart parts p (snapshot feeds vectors k) (view_of (store_in h p k))
  pub deltas : (p k : ℕ) → p < parts → first_in h ≤ k → k ≤ committed_in h p
      → Tells parts p (snapshot feeds vectors (k - 1)) (snapshot feeds vectors k) (delta_in h p k)

-- the hub stands for a story
pub record HubStands (story : Story) (h : HubView) : Type 0 where
  pub core : CoreStands story h.core
  pub stores : StoresStand story.parts story.feeds story.vectors h

-- it stands for some story
abbrev pub HasStory : HubView → Type 0
HasStory h = (story : Story) × HubStands story h
