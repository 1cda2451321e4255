-- Vectors: per epoch the end of each node.
use Rattle.std.specs.Prelude.{ℕ, List, [], slice_index_or}
use Rattle.kin_ids.specs.declared.stamps.End.{End}

-- where a node is before anything is agreed
abbrev pub no_end : End
no_end = record { inc = record { 0 = 0 }; to = 0 }

-- a node's end in a vector
abbrev pub end_at : List End → ℕ → End
end_at ends i = slice_index_or ends i no_end

-- the vector with this number
abbrev pub vector_at : List (List End) → ℕ → List End
vector_at vectors k = slice_index_or vectors k []
