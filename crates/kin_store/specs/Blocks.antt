-- Blocks of rows, and pages of blocks.
use Rattle.std.specs.Prelude.{◌≡◌, ◌*◌, ℕ, List, [], length, replicate, slice_index_or, unwrap_or}
use Rattle.std.specs.Map.{lookup}
use Rattle.kin_share.specs.Chunks.{AreFull}
use Rattle.kin_ids.specs.declared.ids.User.{User}
use Rattle.kin_ids.specs.Users.{same_user, same_tag}
use Rattle.kin_store.specs.Rows.{UserRow, no_row}

-- The rows of some users, and the users of some tags.
pub record BlockState : Type 0 where
  pub rows : List (User × UserRow)
  pub tags : List (List ℕ × List User)

abbrev pub empty_block : BlockState
empty_block = record { rows = []; tags = [] }

-- a page has so many blocks, and a partition so many pages
abbrev pub page : ℕ
page = 64

abbrev pub pages : ℕ
pages = 64

-- the blocks of a partition in which nothing is
unfoldable pub empty_blocks : List BlockState
empty_blocks = replicate (page * pages) empty_block

-- a block of many
abbrev pub slot_of : List BlockState → ℕ → BlockState
slot_of blocks k = slice_index_or blocks k empty_block

-- pages of 64 blocks
pub record IsPaged (ps : List (List BlockState)) (n : ℕ) : Type 0 where
  pub full : AreFull ps
  pub count : n ≡ 64 * length ps

-- the row of each user, and the users of each tag
abbrev pub row_in : BlockState → User → UserRow
row_in b u = unwrap_or (lookup (same_user u) b.rows) no_row

abbrev pub users_in : BlockState → List ℕ → List User
users_in b t = unwrap_or (lookup (same_tag t) b.tags) []
