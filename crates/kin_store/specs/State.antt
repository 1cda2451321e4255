-- The store of one partition in blocks, and what it hands out.
use Rattle.std.specs.Prelude.{◌≡◌, ◌<◌, ℕ, ◌/◌, ◌%◌, List, [], length, slice_index_or}
use Rattle.kin_ids.specs.declared.ids.User.{User}
use Rattle.kin_ids.specs.Parting.{user_part, tag_part}
use Rattle.kin_ids.specs.declared.ops.Piece.{Piece}
use Rattle.kin_ids.specs.declared.ops.Record.{Record}
use Rattle.kin_ids.specs.Graph.{Graph}
use Rattle.kin_ids.specs.Order.{entries, folded}
use Rattle.kin_ids.specs.Operations.{Fits, stamp_records}
use Rattle.kin_ids.specs.Parts.{PartView, IsPart, ops_applied}
use Rattle.kin_store.specs.Rows.{UserRow, no_row}
use Rattle.kin_store.specs.Blocks.{BlockState, empty_block, empty_blocks, row_in, users_in}

-- A partition's number, how many partitions there are, and the blocks of its users and tags.
pub record PartState : Type 0 where
  pub part : ℕ
  pub parts : ℕ
  pub blocks : List BlockState

abbrev pub empty_part : ℕ → ℕ → PartState
empty_part part parts = record { part = part; parts = parts; blocks = empty_blocks }

abbrev pub block_at : PartState → ℕ → BlockState
block_at s k = slice_index_or s.blocks k empty_block

-- the block of a user, and of a tag
abbrev pub user_slot : PartState → User → ℕ
user_slot s u = (u.0 / s.parts) % length s.blocks

abbrev pub tag_slot : PartState → List ℕ → ℕ
tag_slot s t = tag_part 65521 t % length s.blocks

abbrev pub row_of : PartState → User → UserRow
row_of s u = row_in (block_at s (user_slot s u)) u

abbrev pub users_of : PartState → List ℕ → List User
users_of s t = users_in (block_at s (tag_slot s t)) t

-- what the store hands out of each user and tag
abbrev pub view_of : PartState → PartView
view_of s = record {
  out = λ u. (row_of s u).out;
  inn = λ u. (row_of s u).inn;
  mentions = λ u. (row_of s u).mentions;
  mentioners = λ u. (row_of s u).mentioners;
  said = λ u. (row_of s u).said;
  uses = λ u. (row_of s u).uses;
  tag_users = λ t. users_of s t;
}

-- users and tags of other partitions have nothing in the store
pub record LivesHere (s : PartState) : Type 0 where
  pub users : (u : User) → (user_part s.parts u ≡ s.part → ⊥) → row_of s u ≡ no_row
  pub tags : (t : List ℕ) → (tag_part s.parts t ≡ s.part → ⊥) → users_of s t ≡ []

-- there is a block, and only users and tags of this partition have something
pub record IsPartStore (s : PartState) : Type 0 where
  pub some : 0 < length s.blocks
  pub within : s.part < s.parts
  pub home : LivesHere s

-- a view after the operations of a piece of an epoch
abbrev pub after : ℕ → Piece → PartView → PartView
after e x v = ops_applied e x.stamp.ingest.0 v x.ops

-- Where the store was a partition's part of a graph, and the piece fits the feeds, it is the part of the graph after the
-- piece's transaction.
abbrev pub TakesPart : ℕ → Piece → PartState → PartState → Type 0
TakesPart e x old new = (feeds : List (List Record)) (g : Graph) → Fits old.parts feeds x → IsPart old.parts old.part g (view_of old)
    → IsPart old.parts old.part (folded g (entries e x.stamp.ingest.0 x.stamp.from (stamp_records feeds x.stamp))) (view_of new)
