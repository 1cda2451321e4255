-- What contracts see of a hub.
use Rattle.std.specs.Prelude.{ℕ, ◌+◌, List, Option, length}
use Rattle.kin_ids.specs.declared.stamps.End.{End}
use Rattle.kin_held.specs.Chains.{ChainView}
use Rattle.kin_table.specs.Vectors.{vector_at}
use Rattle.kin_table.specs.Tables.{RowView, row_at, agreed_of, inc_of, missing_of, cuts_of, last_of}
use Rattle.kin_graph.specs.State.{PartState}
use Rattle.kin_graph.specs.Deltas.{DeltaLists}
use Rattle.kin_blocks.specs.Versions.{VersionsView, IsKept, committed_at, snap_at, store_at, deltas_at, delta_at}
use Rattle.kin_hub.specs.Cores.{CoreView, chain_of}

-- the partitions' chains and the table, and the partitions' stores by epochs
pub record HubView : Type 0 where
  pub core : CoreView
  pub versions : VersionsView

-- how many partitions and nodes it has
abbrev pub parts_in : HubView → ℕ
parts_in h = length h.core.helds

abbrev pub nodes_in : HubView → ℕ
nodes_in h = length h.core.table.agreed

-- a partition's chain of a node, and its row
abbrev pub chain_in : HubView → ℕ → ℕ → ChainView
chain_in h p i = chain_of h.core p i

abbrev pub row_in : HubView → ℕ → RowView
row_in h p = row_at h.core.table.rows p

-- a node's agreed position, and its incarnation
abbrev pub agreed_in : HubView → ℕ → ℕ
agreed_in h i = agreed_of h.core.table i

abbrev pub inc_in : HubView → ℕ → ℕ
inc_in h i = inc_of h.core.table i

-- the least partition that never reported
abbrev pub missing_in : HubView → Option ℕ
missing_in h = missing_of h.core.table

-- how many epochs are cut, and where the last vector is at a node
abbrev pub cuts_in : HubView → ℕ
cuts_in h = cuts_of h.core.table

abbrev pub last_in : HubView → ℕ → ℕ
last_in h i = (last_of h.core.table i).to

-- the last epoch that a partition has committed, and the ends of its next one
abbrev pub committed_in : HubView → ℕ → ℕ
committed_in h p = committed_at h.versions p

abbrev pub next_ends : HubView → ℕ → List End
next_ends h p = vector_at h.core.table.vectors (committed_in h p + 1)

-- the first epoch that wasn't let go, and whether an epoch is kept: every partition has committed it, and it wasn't let go
abbrev pub first_in : HubView → ℕ
first_in h = h.versions.first

abbrev pub KeepsEpoch : HubView → ℕ → Type 0
KeepsEpoch h k = IsKept h.versions k

-- the stores of all partitions at an epoch, and one partition's
abbrev pub snap_in : HubView → ℕ → List PartState
snap_in h k = snap_at h.versions k

abbrev pub store_in : HubView → ℕ → ℕ → PartState
store_in h p k = store_at h.versions p k

-- what an epoch changed in each partition, and in one
abbrev pub deltas_in : HubView → ℕ → List DeltaLists
deltas_in h k = deltas_at h.versions k

abbrev pub delta_in : HubView → ℕ → ℕ → DeltaLists
delta_in h p k = delta_at h.versions p k
