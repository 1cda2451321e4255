-- The agreed order of records, and the snapshots that it folds to.
use Rattle.std.specs.Prelude.{ℕ, zero, suc, ◌+◌, ◌-◌, nat_le, List, [], ◌∷◌, ◌++◌, filter, take, drop, length, slice_index_or}
use Rattle.kin_ids.specs.Types.{Place, Record, Stamp}
use Rattle.kin_ids.specs.Graph.{Graph, empty_graph, applied}

-- a record at its place
pub record Entry : Type 0 where
  pub place : Place
  pub content : Record

-- a feed by its number; past the last one it is empty
abbrev pub feed_at : List (List Record) → ℕ → List Record
feed_at feeds i = slice_index_or feeds i []

-- records of a node in an epoch that follow position n, each at its place
abbrev pub entries : ℕ → ℕ → ℕ → List Record → List Entry
entries e i n [] = []
entries e i n (r ∷ rs) = record { place = record { epoch = record { 0 = e }; ingest = record { 0 = i }; number = n + 1 }; content = r } ∷ entries e i (n + 1) rs

-- the records of a feed past one position, up to another
abbrev pub between : List Record → ℕ → ℕ → List Record
between feed from to = take (to - from) (drop from feed)

-- the records that epoch e adds on the first n nodes, from one vector to the next
abbrev pub of_epoch : List (List Record) → ℕ → (ℕ → ℕ) → (ℕ → ℕ) → ℕ → List Entry
of_epoch feeds e was now zero = []
of_epoch feeds e was now (suc i) = of_epoch feeds e was now i ++ entries e i (was i) (between (feed_at feeds i) (was i) (now i))

-- the records of the first k epochs in agreed order: by epoch, then by node, then by number. `vectors e i` is node i's position in vector e
abbrev pub order : List (List Record) → (ℕ → ℕ → ℕ) → ℕ → List Entry
order feeds vectors zero = []
order feeds vectors (suc k) = order feeds vectors k ++ of_epoch feeds (suc k) (vectors k) (vectors (suc k)) (length feeds)

-- entries applied in turn
abbrev pub folded : Graph → List Entry → Graph
folded g [] = g
folded g (x ∷ xs) = folded (applied x.place g x.content) xs

-- the graph of all records within vector k
abbrev pub snapshot : List (List Record) → (ℕ → ℕ → ℕ) → ℕ → Graph
snapshot feeds vectors k = folded empty_graph (order feeds vectors k)

-- the transactions of node i within vector k: those of its line that end at or before its position there
abbrev pub within : (ℕ → List Stamp) → (ℕ → ℕ → ℕ) → ℕ → ℕ → List Stamp
within lines vectors k i = filter (λ s. nat_le s.to (vectors k i)) (lines i)
