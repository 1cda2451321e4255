-- The core of a hub: the chains of each partition, and the table. What its calls leave.
use Rattle.std.specs.Prelude.{ℕ, ◌≡◌, true, List, [], All, length, map, slice_index_or, slice_set}
use Rattle.kin_ids.specs.declared.ids.Inc.{Inc}
use Rattle.std.specs.List.{range_with_len}
use Rattle.kin_ids.specs.declared.stamps.Stamp.{Stamp}
use Rattle.kin_ids.specs.declared.stamps.End.{End}
use Rattle.kin_ids.specs.declared.ops.Piece.{Piece}
use Rattle.kin_ids.specs.Lines.{end_of, stamps_of, upto, past, least_from}
use Rattle.kin_held.specs.Chains.{ChainView, chain_at}
use Rattle.kin_held.specs.Takes.{TakesAt}
use Rattle.kin_held.specs.declared.answers.Taken.{Taken}
use Rattle.kin_table.specs.Tables.{RowView, TableView, IsTable, agreed_of, reach_of, last_of, with_row, with_agreed, with_vector, sealed_of}
use Rattle.kin_hub.specs.Fronts.{common_of}

pub record CoreView : Type 0 where
  pub helds : List (List ChainView)
  pub table : TableView

-- one row of each partition, and in each partition one chain of each node
pub record IsCore (c : CoreView) : Type 0 where
  pub table : IsTable c.table
  pub parts : length c.helds ≡ length c.table.rows
  pub chains : All (λ (held : List ChainView). length held ≡ length c.table.agreed) c.helds

abbrev pub held_at : List (List ChainView) → ℕ → List ChainView
held_at helds p = slice_index_or helds p []

-- a partition's chain of a node
abbrev pub chain_of : CoreView → ℕ → ℕ → ChainView
chain_of c p i = chain_at (held_at c.helds p) i

-- the least reach of all partitions
abbrev pub least_reach : CoreView → ℕ → ℕ
least_reach c i = least_from (reach_of c.table 0 i) (length c.table.rows) (λ p. reach_of c.table p i)

-- the stamps past a position in each partition's chain of a node
abbrev pub past_in : List (List ChainView) → ℕ → ℕ → List (List Stamp)
past_in helds at i = map (λ (held : List ChainView). past at (stamps_of (chain_at held i).held)) helds

-- the run of stamps past the agreed position that the chains of all partitions share, up to the least reach
abbrev pub ready_run : CoreView → ℕ → List Stamp
ready_run c i = upto (least_reach c i) (common_of (past_in c.helds (agreed_of c.table i) i))

-- where that run ends
abbrev pub ready : CoreView → ℕ → ℕ
ready c i = end_of (agreed_of c.table i) (ready_run c i)

-- a partition takes a piece, and all else stays
abbrev pub CoreTakes : CoreView → Piece → Taken → CoreView → Type 0
CoreTakes old x taken new =
    (held : List ChainView) × TakesAt (held_at old.helds x.part.0) x taken held
    × (new ≡ record old { helds = slice_set old.helds x.part.0 held })

abbrev pub kept_inc : ChainView → Inc
kept_inc chain = record { 0 = chain.inc }

-- the row that a partition's chains give
abbrev pub row_of : List ChainView → RowView
row_of held = record { reported = true; incs = map kept_inc held; tops = map (λ (chain : ChainView). chain.top) held }

-- a partition's row is that of its chains
abbrev pub with_report : CoreView → ℕ → CoreView
with_report c p = record c { table = with_row c.table p (row_of (held_at c.helds p)) }

-- a node's agreed position is the ready one
abbrev pub with_raise : CoreView → ℕ → CoreView
with_raise c i = record c { table = with_agreed c.table i (ready c i) }

-- a node's incarnation is the next one
abbrev pub with_seal : CoreView → ℕ → CoreView
with_seal c i = record c { table = sealed_of c.table i }

-- the stamps that a chain holds past one position, up to another
abbrev pub stamps_between : ChainView → ℕ → ℕ → List Stamp
stamps_between chain from to = upto to (past from (stamps_of chain.held))

-- each node's agreed stamps past the last vector, as partition 0 has them
abbrev pub since_cut : CoreView → List (List Stamp)
since_cut c = map (λ i. stamps_between (chain_of c 0 i) (last_of c.table i).to (agreed_of c.table i))
    (range_with_len 0 (length c.table.agreed))

-- one more vector
abbrev pub with_cut : CoreView → List End → CoreView
with_cut c ends = record c { table = with_vector c.table ends }
