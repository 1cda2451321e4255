-- Going round the nodes: how code takes a fair cut without putting all transactions in order.
use Rattle.std.specs.Prelude.{ℕ, zero, suc, ◌≡◌, ◌+◌, max, List, [], ◌∷◌, ◌++◌, Option, Some, None, length}
use Rattle.std.specs.List.{slice_get, range_with_len}
use Rattle.kin_ids.specs.Types.{Stamp}
use Rattle.kin_ids.specs.Fair.{Waiting, in_turn}

-- a node's transaction with a number, where there is one
abbrev pub waiting_at : ℕ → ℕ → Option Stamp → List Waiting
waiting_at i r None = []
waiting_at i r (Some s) = record { node = i; number = r; stamp = s } ∷ []

-- the pending transactions with this number within their node's list, by node
abbrev pub row : (ℕ → List Stamp) → ℕ → List ℕ → List Waiting
row pending r [] = []
row pending r (i ∷ is) = waiting_at i r (slice_get (pending i) r) ++ row pending r is

-- k rows, from a number on
abbrev pub rows : (ℕ → List Stamp) → List ℕ → ℕ → ℕ → List Waiting
rows pending is r zero = []
rows pending is r (suc k) = row pending r is ++ rows pending is (r + 1) k

-- the length of the longest of these nodes' lists
abbrev pub longest : (ℕ → List Stamp) → List ℕ → ℕ
longest pending [] = 0
longest pending (i ∷ is) = max (length (pending i)) (longest pending is)

-- row by row, the transactions come in turn
abbrev pub RowsLaw : Type 0
RowsLaw = (pending : ℕ → List Stamp) (nodes : ℕ) →
    in_turn pending nodes ≡ rows pending (range_with_len 0 nodes) 0 (longest pending (range_with_len 0 nodes))
