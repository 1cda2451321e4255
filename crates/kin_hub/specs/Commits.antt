-- Commits: a partition's store takes an epoch's pieces, and its chains let go of them.
use Rattle.std.specs.Prelude.{ℕ, zero, suc, ◌≡◌, ◌<◌, ◌≤◌, ◌+◌, ◌-◌, ◌*◌, ◌^◌, List, [], ◌++◌, length, slice_index_or, slice_set}
use Rattle.kin_ids.specs.declared.ids.User.{User}
use Rattle.kin_ids.specs.declared.ops.Piece.{Piece}
use Rattle.kin_ids.specs.declared.stamps.End.{End}
use Rattle.kin_ids.specs.Graph.{vertices}
use Rattle.kin_ids.specs.Sizes.{AreWithinLimits}
use Rattle.kin_ids.specs.Order.{snapshot}
use Rattle.kin_ids.specs.Parts.{PartView}
use Rattle.kin_held.specs.Chains.{ChainView, chain_at, pieces_upto}
use Rattle.kin_held.specs.Takes.{chain_past}
use Rattle.kin_table.specs.Vectors.{end_at}
use Rattle.kin_graph.specs.State.{PartState, view_of}
use Rattle.kin_graph.specs.Deltas.{DeltaLists, no_change}
use Rattle.kin_graph.specs.Tells.{Tells}
use Rattle.kin_blocks.specs.Blocks.{pieces_applied}
use Rattle.kin_blocks.specs.Snaps.{joined}
use Rattle.kin_ids.specs.Wholes.{IsViewOf}
use Rattle.kin_blocks.specs.Versions.{CommitsNext}
use Rattle.kin_hub.specs.Cores.{CoreView, held_at}
use Rattle.kin_hub.specs.Hubs.{HubView, KeepsEpoch, parts_in, nodes_in, cuts_in, committed_in, next_ends, snap_in, store_in, deltas_in}
use Rattle.kin_hub.specs.Stands.{Story, HubStands}

-- the pieces of the first n nodes, node by node: of each node those up to its end in a vector
abbrev pub epoch_pieces : List ChainView → List End → ℕ → List Piece
epoch_pieces held ends zero = []
epoch_pieces held ends (suc i) = epoch_pieces held ends i ++ pieces_upto (end_at ends i).to (chain_at held i).held

-- chains without their pieces up to the ends in a vector
pub record Forgets (old : List ChainView) (ends : List End) (new : List ChainView) : Type 0 where
  pub count : length new ≡ length old
  pub each : (i : ℕ) → i < length old → chain_at new i ≡ chain_past (chain_at old i) (end_at ends i).to

-- the same of a partition's chains, where all else stays
abbrev pub CoreForgets : CoreView → ℕ → List End → CoreView → Type 0
CoreForgets old p ends new = (held : List ChainView) × Forgets (held_at old.helds p) ends held
    × (new ≡ record old { helds = slice_set old.helds p held })

-- the pieces of partition p's next epoch, and what its store is with them
abbrev pub next_pieces : HubView → ℕ → List Piece
next_pieces h p = epoch_pieces (held_at h.core.helds p) (next_ends h p) (nodes_in h)

abbrev pub next_store : HubView → ℕ → PartView
next_store h p = pieces_applied (committed_in h p + 1) (view_of (store_in h p (committed_in h p))) (next_pieces h p)

-- no number of mentions passes 2^64 - 1 by partition p's next epoch, where that is cut
abbrev pub MayCommit : HubView → ℕ → Type 0
MayCommit h p = committed_in h p < cuts_in h → (u : User) → (next_store h p).said u < 2 ^ 64

-- Partition p commits its next epoch: its store takes the epoch's pieces, which tells its delta, and its chains let go of them.
pub record Commits (old : HubView) (p : ℕ) (new : HubView) : Type 0 where
  pub core : CoreForgets old.core p (next_ends old p) new.core
  pub versions : CommitsNext old.versions p (next_pieces old p) new.versions

-- the hub stands for a story over feeds within the limits
abbrev pub HasSmallFeeds : HubView → Type 0
HasSmallFeeds h = (story : Story) × HubStands story h × AreWithinLimits story.feeds

-- which is one way to show that its partitions may commit
abbrev pub MayCommitLaw : Type 0
MayCommitLaw = (h : HubView) (p : ℕ) → HasSmallFeeds h → p < parts_in h → MayCommit h p

-- over feeds within the limits the graph of a cut epoch has few vertices
abbrev pub FewVerticesLaw : Type 0
FewVerticesLaw = (story : Story) (h : HubView) (k : ℕ) → HubStands story h → AreWithinLimits story.feeds → k ≤ cuts_in h →
    length (vertices (snapshot story.feeds story.vectors k)) ≤ 17 * 2097152

-- For every story that the hub stands for, these stores hand out together the graph of all records within vector k.
abbrev pub AreSnapshot : HubView → ℕ → List PartState → Type 0
AreSnapshot h k stores = (story : Story) → HubStands story h → IsViewOf (snapshot story.feeds story.vectors k) (joined stores)

-- For every story that the hub stands for, these deltas tell of each partition exactly what differs between the graph of all records
-- within vector k - 1 and that of all within vector k; of epoch 0 they tell that nothing changed.
pub record AreDeltas (h : HubView) (k : ℕ) (deltas : List DeltaLists) : Type 0 where
  pub count : length deltas ≡ parts_in h
  pub tell : (story : Story) (p : ℕ) → HubStands story h → p < parts_in h →
      Tells (parts_in h) p (snapshot story.feeds story.vectors (k - 1)) (snapshot story.feeds story.vectors k)
      (slice_index_or deltas p no_change)

-- an epoch is kept, and its stores and deltas are as they were
pub record IsSameEpoch (old new : HubView) (k : ℕ) : Type 0 where
  pub kept : KeepsEpoch new k
  pub snap : snap_in new k ≡ snap_in old k
  pub deltas : deltas_in new k ≡ deltas_in old k

-- every epoch that was kept is kept still, as it was
abbrev pub KeepsSnaps : HubView → HubView → Type 0
KeepsSnaps old new = (k : ℕ) → KeepsEpoch old k → IsSameEpoch old new k

-- the same of the epochs from one on
abbrev pub KeepsSnapsFrom : ℕ → HubView → HubView → Type 0
KeepsSnapsFrom j old new = (k : ℕ) → j ≤ k → KeepsEpoch old k → IsSameEpoch old new k
