-- The stores of all partitions, epoch by epoch, and what each epoch changed.
use Rattle.std.specs.Prelude.{ℕ, ◌≡◌, ◌<◌, ◌≤◌, ◌+◌, ◌-◌, ◌^◌, max, ◌==◌, if◌then◌else◌, Option, Some, None, List, [], ◌∷◌, ◌++◌}
use Rattle.std.specs.Prelude.{length, map, replicate, drop, slice_index, slice_index_or, slice_set}
use Rattle.kin_ids.specs.declared.ops.Piece.{Piece}
use Rattle.kin_graph.specs.State.{PartState, view_of}
use Rattle.kin_graph.specs.Deltas.{DeltaLists, no_change, IsDelta}
use Rattle.kin_blocks.specs.Blocks.{BlocksView, fresh, pieces_applied}
use Rattle.kin_blocks.specs.Snaps.{IsSnap, state_at, empty_stores}

-- The store of each partition at the end of an epoch, and what the epoch changed in each.
pub record VersionState : Type 0 where
  pub stores : List PartState
  pub deltas : List DeltaLists

-- The first epoch that is kept; of each partition the last epoch that it has committed; and the versions from the first kept epoch
-- on. Of an epoch that a partition hasn't committed its store there is that of an earlier one, and its delta is empty.
pub record VersionsView : Type 0 where
  pub first : ℕ
  pub committed : List ℕ
  pub epochs : List VersionState

abbrev pub no_version : VersionState
no_version = record { stores = []; deltas = [] }

-- the last epoch that a partition has committed
abbrev pub committed_at : VersionsView → ℕ → ℕ
committed_at v p = slice_index v.committed p

-- the version of an epoch; its stores, and one partition's; its deltas, and one partition's
abbrev pub version_at : VersionsView → ℕ → VersionState
version_at v k = slice_index_or v.epochs (k - v.first) no_version

abbrev pub snap_at : VersionsView → ℕ → List PartState
snap_at v k = (version_at v k).stores

abbrev pub store_at : VersionsView → ℕ → ℕ → PartState
store_at v p k = state_at (snap_at v k) p

abbrev pub deltas_at : VersionsView → ℕ → List DeltaLists
deltas_at v k = (version_at v k).deltas

abbrev pub delta_at : VersionsView → ℕ → ℕ → DeltaLists
delta_at v p k = slice_index_or (deltas_at v k) p no_change

-- an epoch is kept where it wasn't let go and every partition has committed it
pub record IsKept (v : VersionsView) (k : ℕ) : Type 0 where
  pub since : v.first ≤ k
  pub whole : (p : ℕ) → p < length v.committed → k ≤ committed_at v p

-- a store and a delta of each partition
pub record IsVersion (parts : ℕ) (w : VersionState) : Type 0 where
  pub snap : IsSnap w.stores
  pub stores : length w.stores ≡ parts
  pub deltas : length w.deltas ≡ parts

-- there is a partition, each epoch has a store and a delta of each, and what a partition has committed last is there
pub record IsVersions (v : VersionsView) : Type 0 where
  pub some : 0 < length v.committed
  pub few : length v.committed < 2 ^ 16
  pub each : (j : ℕ) → j < length v.epochs → IsVersion (length v.committed) (slice_index_or v.epochs j no_version)
  pub since : (p : ℕ) → p < length v.committed → v.first ≤ committed_at v p
  pub there : (p : ℕ) → p < length v.committed → committed_at v p < v.first + length v.epochs

-- before any commit each partition is written from nothing
abbrev pub first_writers : ℕ → List BlocksView
first_writers parts = map fresh (empty_stores parts)

-- each partition's writer has its store of the last epoch that it has committed, with nothing touched since
pub record AreWritten (v : VersionsView) (writers : List BlocksView) : Type 0 where
  pub count : length writers ≡ length v.committed
  pub each : (p : ℕ) (d : BlocksView) → p < length v.committed → slice_index_or writers p d ≡ fresh (store_at v p (committed_at v p))

-- these stores, in none of which anything changed
abbrev pub unchanged : List PartState → VersionState
unchanged stores = record { stores = stores; deltas = replicate (length stores) no_change }

-- before any commit: epoch 0, whose stores and deltas are empty
abbrev pub first_versions : ℕ → VersionsView
first_versions parts = record { first = 0; committed = replicate parts 0; epochs = unchanged (empty_stores parts) ∷ [] }

-- A partition's next epoch has this store, and this delta. Nothing else that was committed changes, and no epoch that is kept does.
pub record PutsNext (old : VersionsView) (p : ℕ) (store : PartState) (delta : DeltaLists) (new : VersionsView) : Type 0 where
  pub first : new.first ≡ old.first
  pub committed : new.committed ≡ slice_set old.committed p (committed_at old p + 1)
  pub put : store_at new p (committed_at old p + 1) ≡ store
  pub told : delta_at new p (committed_at old p + 1) ≡ delta
  pub stays : (q k : ℕ) → q < length old.committed → old.first ≤ k → k ≤ committed_at old q → store_at new q k ≡ store_at old q k
  pub told_stays : (q k : ℕ) → q < length old.committed → old.first ≤ k → k ≤ committed_at old q → delta_at new q k ≡ delta_at old q k
  pub kept : (k : ℕ) → IsKept old k → version_at new k ≡ version_at old k

-- A partition commits these pieces as its next epoch: its store is the one of the epoch before with the pieces, and its delta is
-- exactly what that changed.
pub record CommitsNext (old : VersionsView) (p : ℕ) (pieces : List Piece) (new : VersionsView) : Type 0 where
  pub store : PartState
  pub delta : DeltaLists
  pub puts : PutsNext old p store delta new
  pub applied : view_of store ≡ pieces_applied (committed_at old p + 1) (view_of (store_at old p (committed_at old p))) pieces
  pub exact : IsDelta (view_of (store_at old p (committed_at old p))) (view_of store) delta

-- one more version for this place, where there is none yet: the last one's stores
abbrev pub spare_for : List VersionState → ℕ → Option VersionState
spare_for vs at = if at == length vs then Some (unchanged (slice_index_or vs (at - 1) no_version).stores) else None

abbrev pub reached : List VersionState → Option VersionState → List VersionState
reached vs None = vs
reached vs (Some w) = vs ++ w ∷ []

-- a version with another store and delta of a partition
abbrev pub version_put : VersionState → ℕ → PartState → DeltaLists → VersionState
version_put w p s d = record { stores = slice_set w.stores p s; deltas = slice_set w.deltas p d }

-- the versions with another store and delta of a partition at a place
abbrev pub placed : List VersionState → ℕ → ℕ → PartState → DeltaLists → List VersionState
placed vs at p s d = slice_set vs at (version_put (slice_index_or vs at no_version) p s d)

-- without the epochs below one
abbrev pub released : VersionsView → ℕ → VersionsView
released v k = record v { first = max v.first k; epochs = drop (k - v.first) v.epochs }
