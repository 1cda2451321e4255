-- Versions of stores in which no count of mentions is near its end, and pieces of follows, which change none.
use Rattle.std.specs.Prelude.{ℕ, ◌≡◌, ◌<◌, ◌^◌, Bool, true, false, All, length}
use Rattle.kin_ids.specs.declared.ids.User.{User}
use Rattle.kin_ids.specs.declared.ops.Numbered.{Numbered}
use Rattle.kin_ids.specs.declared.ops.Op.{Op}
use Rattle.kin_ids.specs.declared.ops.Op.TheVariants as op
use Rattle.kin_ids.specs.declared.ops.Piece.{Piece}
use Rattle.kin_ids.specs.Operations.{op_part}
use Rattle.kin_graph.specs.State.{view_of}
use Rattle.kin_blocks.specs.Versions.{VersionsView, IsVersions, committed_at, store_at}

-- what changes a half of a follow edge
abbrev pub is_half : Op → Bool
is_half (op.AddOut u w) = true
is_half (op.AddIn w u) = true
is_half (op.DropOut u w) = true
is_half (op.DropIn w u) = true
is_half _ = false

-- a partition's operation that changes a half
pub record IsHalf (parts p : ℕ) (x : Numbered) : Type 0 where
  pub half : is_half x.op ≡ true
  pub home : op_part parts x.op ≡ p

-- a partition's piece of follows
pub record IsFollows (parts p : ℕ) (x : Piece) : Type 0 where
  pub part : x.part.0 ≡ p
  pub halves : All (IsHalf parts p) x.ops

-- each partition's last store has room for all that follows
pub record HasRooms (parts : ℕ) (v : VersionsView) : Type 0 where
  pub is : IsVersions v
  pub count : length v.committed ≡ parts
  pub said : (p : ℕ) → p < parts → (u : User) → (view_of (store_at v p (committed_at v p))).said u < 2 ^ 64
