-- What a partition keeps of one node: a chain of pieces that follow each other, and early ones.
use Rattle.std.specs.Prelude.{ℕ, ◌≡◌, nat_le, false, List, [], ◌∷◌, All, slice_index_or, if◌then◌else◌}
use Rattle.kin_ids.specs.declared.ops.Piece.{Piece}
use Rattle.kin_ids.specs.Lines.{IsLine, end_of, stamps_of}
use Rattle.kin_ids.specs.Operations.{IsWellFormed}
use Rattle.kin_held.specs.Early.{begins, IsAscending}

-- The incarnation kept, the floor up to which all is committed, the top, the held pieces between the two, and the pieces that
-- came before the chain could take them.
pub record ChainView : Type 0 where
  pub inc : ℕ
  pub floor : ℕ
  pub top : ℕ
  pub held : List Piece
  pub early : List Piece

-- the pieces follow each other from one position to another
abbrev pub IsRun : ℕ → List Piece → ℕ → Type 0
IsRun at ps to = IsLine at (stamps_of ps) × (end_of at (stamps_of ps) ≡ to)

-- the held pieces lead from the floor to the top, and no early piece begins at the top
pub record IsChain (c : ChainView) : Type 0 where
  pub run : IsRun c.floor c.held c.top
  pub formed : All IsWellFormed c.early
  pub ascending : IsAscending c.early
  pub settled : begins c.top c.early ≡ false

-- a chain before anything came
abbrev pub no_chain : ChainView
no_chain = record { inc = 0; floor = 0; top = 0; held = []; early = [] }

abbrev pub chain_at : List ChainView → ℕ → ChainView
chain_at chains i = slice_index_or chains i no_chain

-- the pieces from the front on that end at or before a position
abbrev pub pieces_upto : ℕ → List Piece → List Piece
pieces_upto at [] = []
pieces_upto at (p ∷ ps) = if nat_le p.stamp.to at then p ∷ pieces_upto at ps else []

-- what is left of pieces past a position
abbrev pub pieces_past : ℕ → List Piece → List Piece
pieces_past at [] = []
pieces_past at (p ∷ ps) = if nat_le p.stamp.to at then pieces_past at ps else p ∷ ps
