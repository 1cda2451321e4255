-- A chain's pieces in memory.
use Rattle.std.specs.Prelude.{ℕ, List}
use Rattle.kin_ids.specs.declared.ops.Piece.{Piece}

-- the pieces in their order, and how many more fit without more memory
pub record QueueView : Type 0 where
  pub items : List Piece
  pub room : ℕ
