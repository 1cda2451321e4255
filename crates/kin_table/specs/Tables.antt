-- What a table holds: a row of each partition, the incarnation and the agreed position of each node, and the vectors.
use Rattle.std.specs.Prelude.{ℕ, ◌≡◌, ◌<◌, ◌≤◌, ◌+◌, ◌-◌, ◌==◌, ◌^◌, ◌&&◌, nat_lt, Bool, false, if◌then◌else◌, List, [], ◌∷◌, ◌++◌, All, Option, Some, None, unwrap_or, length, replicate, slice_index, slice_index_or, slice_set}
use Rattle.kin_ids.specs.declared.ids.Inc.{Inc}
use Rattle.kin_ids.specs.declared.stamps.End.{End}
use Rattle.kin_ids.specs.Lines.{first_without}
use Rattle.kin_table.specs.Vectors.{no_end, end_at, vector_at}
use Rattle.kin_table.specs.declared.answers.Raised.{Raised}
use Rattle.kin_table.specs.declared.answers.Raised.TheVariants as raised

-- What a partition reported last: the incarnation and the top of each node. Before its first report both are zeros.
pub record RowView : Type 0 where
  pub reported : Bool
  pub incs : List Inc
  pub tops : List ℕ

-- Vector 0 is all zeros, and each cut appends the next one.
pub record TableView : Type 0 where
  pub rows : List RowView
  pub incs : List Inc
  pub agreed : List ℕ
  pub vectors : List (List End)

-- there is a node and a partition, each list has one entry of each node, and epochs have numbers below 2^32
pub record IsTable (t : TableView) : Type 0 where
  pub nodes : 0 < length t.agreed
  pub few_nodes : length t.agreed < 2 ^ 16
  pub parts : 0 < length t.rows
  pub few_parts : length t.rows < 2 ^ 16
  pub incs : length t.incs ≡ length t.agreed
  pub row_incs : All (λ (row : RowView). length row.incs ≡ length t.agreed) t.rows
  pub row_tops : All (λ (row : RowView). length row.tops ≡ length t.agreed) t.rows
  pub vectors : All (λ (ends : List End). length ends ≡ length t.agreed) t.vectors
  pub some : 0 < length t.vectors
  pub few_cuts : length t.vectors ≤ 2 ^ 32

-- the row of a partition that didn't report yet
abbrev pub no_report : ℕ → RowView
no_report nodes = record { reported = false; incs = replicate nodes (record { 0 = 0 }); tops = replicate nodes 0 }

-- a table before anything was reported
abbrev pub first_table : ℕ → ℕ → TableView
first_table nodes parts = record {
  rows = replicate parts (no_report nodes);
  incs = replicate nodes (record { 0 = 0 });
  agreed = replicate nodes 0;
  vectors = replicate nodes no_end ∷ [];
}

abbrev pub row_at : List RowView → ℕ → RowView
row_at rows p = slice_index_or rows p (no_report 0)

-- a node's incarnation among these
abbrev pub inc_in : List Inc → ℕ → ℕ
inc_in incs i = (slice_index_or incs i (record { 0 = 0 })).0

-- a node's top in a row, where the row is there and has this incarnation of the node
abbrev pub top_in : RowView → ℕ → ℕ → Option ℕ
top_in row i c = if row.reported && inc_in row.incs i == c then Some (slice_index row.tops i) else None

abbrev pub agreed_of : TableView → ℕ → ℕ
agreed_of t i = slice_index t.agreed i

abbrev pub inc_of : TableView → ℕ → ℕ
inc_of t i = inc_in t.incs i

-- up to where a partition has a node: by its row where that has the present incarnation, else the agreed position
abbrev pub reach_of : TableView → ℕ → ℕ → ℕ
reach_of t p i = unwrap_or (top_in (row_at t.rows p) i (inc_of t i)) (agreed_of t i)

-- the least partition that never reported
abbrev pub missing_of : TableView → Option ℕ
missing_of t = first_without 0 (length t.rows) (λ p. (row_at t.rows p).reported)

-- how many epochs are cut
abbrev pub cuts_of : TableView → ℕ
cuts_of t = length t.vectors - 1

-- a node's end in the last vector
abbrev pub last_of : TableView → ℕ → End
last_of t i = end_at (vector_at t.vectors (cuts_of t)) i

-- a partition's row is this
abbrev pub with_row : TableView → ℕ → RowView → TableView
with_row t p row = record t { rows = slice_set t.rows p row }

-- a node's agreed position is this
abbrev pub with_agreed : TableView → ℕ → ℕ → TableView
with_agreed t i to = record t { agreed = slice_set t.agreed i to }

-- one more vector
abbrev pub with_vector : TableView → List End → TableView
with_vector t ends = record t { vectors = t.vectors ++ ends ∷ [] }

-- what a position that was the one and is the other became
abbrev pub raised_of : ℕ → ℕ → Raised
raised_of was now = if nat_lt was now then raised.Raised now else raised.Level was

-- where the next incarnation of a node begins
abbrev pub base_of : TableView → ℕ → End
base_of t i = record { inc = record { 0 = inc_of t i + 1 }; to = agreed_of t i }

-- a node's incarnation is the next one
abbrev pub sealed_of : TableView → ℕ → TableView
sealed_of t i = record t { incs = slice_set t.incs i (base_of t i).inc }
