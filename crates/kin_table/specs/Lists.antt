-- Lists with one entry of each node.
use Rattle.std.specs.Prelude.{ℕ, ◌≡◌, ◌<◌, List, [], length, slice_index, slice_index_or}
use Rattle.kin_ids.specs.declared.stamps.Stamp.{Stamp}

-- the stamps of a node
abbrev pub list_at : List (List Stamp) → ℕ → List Stamp
list_at lists i = slice_index_or lists i []

-- the numbers that a function gives below a bound
pub record IsVector (nodes : ℕ) (f : ℕ → ℕ) (v : List ℕ) : Type 0 where
  pub count : length v ≡ nodes
  pub each : (i : ℕ) → i < nodes → slice_index v i ≡ f i
