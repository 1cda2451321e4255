-- The stores of all partitions at one moment, read as one graph.
use Rattle.std.specs.Prelude.{ℕ, ◌≡◌, ◌<◌, ◌^◌, List, map, length, slice_index_or}
use Rattle.std.specs.List.{range_with_len}
use Rattle.kin_ids.specs.Parting.{user_part, tag_part}
use Rattle.kin_ids.specs.Parts.{PartView}
use Rattle.kin_graph.specs.State.{PartState, empty_part, view_of}

-- the store of a partition among these
abbrev pub state_at : List PartState → ℕ → PartState
state_at stores p = slice_index_or stores p (empty_part 0 0)

-- one store of each partition, in order
pub record IsSnap (stores : List PartState) : Type 0 where
  pub some : 0 < length stores
  pub few : length stores < 2 ^ 16
  pub part : (p : ℕ) → p < length stores → (state_at stores p).part ≡ p
  pub parts : (p : ℕ) → p < length stores → (state_at stores p).parts ≡ length stores

-- the empty store of each partition
abbrev pub empty_stores : ℕ → List PartState
empty_stores parts = map (λ p. empty_part p parts) (range_with_len 0 parts)

-- what the store of a partition hands out
abbrev pub view_at : List PartState → ℕ → PartView
view_at stores p = view_of (state_at stores p)

-- what they hand out together: of each user and each tag what its partition has
abbrev pub joined : List PartState → PartView
joined stores = record {
  out = λ u. (view_at stores (user_part (length stores) u)).out u;
  inn = λ u. (view_at stores (user_part (length stores) u)).inn u;
  mentions = λ u. (view_at stores (user_part (length stores) u)).mentions u;
  mentioners = λ u. (view_at stores (user_part (length stores) u)).mentioners u;
  said = λ u. (view_at stores (user_part (length stores) u)).said u;
  uses = λ u. (view_at stores (user_part (length stores) u)).uses u;
  tag_users = λ t. (view_at stores (tag_part (length stores) t)).tag_users t;
}
