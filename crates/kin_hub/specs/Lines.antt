-- What a hub's agreed lines, chains, rows and vectors are, of one node.
use Rattle.std.specs.Prelude.{ℕ, ◌≡◌, ◌<◌, ◌≤◌, ◌+◌, true, All, List, length, slice_index}
use Rattle.kin_ids.specs.declared.stamps.Stamp.{Stamp}
use Rattle.kin_ids.specs.declared.stamps.End.{End}
use Rattle.kin_ids.specs.declared.ops.Record.{Record}
use Rattle.kin_ids.specs.declared.ops.Piece.{Piece}
use Rattle.kin_ids.specs.Lines.{end_of, stamps_of, has, upto, past, IsLine, IsEnd}
use Rattle.kin_ids.specs.Operations.{IsTransaction, Fits}
use Rattle.kin_held.specs.Chains.{ChainView, IsRun}
use Rattle.kin_table.specs.Ends.{inc_at}
use Rattle.kin_table.specs.Tables.{RowView, inc_in}

-- where an incarnation began
abbrev pub base_of : List ℕ → ℕ → ℕ
base_of bases c = slice_index bases c

-- A stamp of node i's agreed line, whose feed has this length: it lies at or past its incarnation's base, and at or before the next
-- one, if there is one.
pub record IsHubStamp (len i : ℕ) (bases : List ℕ) (s : Stamp) : Type 0 where
  pub node : s.ingest.0 ≡ i
  pub transaction : IsTransaction len s
  pub began : s.inc.0 < length bases
  pub begins : base_of bases s.inc.0 ≤ s.from
  pub ends : s.inc.0 + 1 < length bases → s.to ≤ base_of bases (s.inc.0 + 1)

-- The agreed line of node i, whose feed has this length, and the bases of its incarnations: the line leads from 0 to the agreed
-- position, the first base is 0, none falls, and none is above the agreed position.
pub record IsHubLine (len i : ℕ) (line : List Stamp) (bases : List ℕ) (inc agreed : ℕ) : Type 0 where
  pub run : IsLine 0 line
  pub ends : end_of 0 line ≡ agreed
  pub stamps : (s : Stamp) → has line s ≡ true → IsHubStamp len i bases s
  pub count : length bases ≡ inc + 1
  pub first : base_of bases 0 ≡ 0
  pub ordered : (c d : ℕ) → c ≤ d → d ≤ inc → base_of bases c ≤ base_of bases d
  pub older : (c : ℕ) → c ≤ inc → base_of bases c ≤ agreed

-- a piece that partition p may keep of node i, where it keeps this incarnation
pub record IsHubPiece (parts : ℕ) (feeds : List (List Record)) (p i : ℕ) (bases : List ℕ) (kept : ℕ) (x : Piece) : Type 0 where
  pub fits : Fits parts feeds x
  pub part : x.part.0 ≡ p
  pub node : x.stamp.ingest.0 ≡ i
  pub inc : x.stamp.inc.0 ≤ kept
  pub base : x.base ≡ base_of bases x.stamp.inc.0
  pub ended : x.stamp.inc.0 < kept → x.stamp.to ≤ base_of bases (x.stamp.inc.0 + 1)

-- Partition p's chain of node i: from its floor to the agreed position it has exactly the stamps of the line there. A position past the
-- base of an incarnation is agreed only where the chain keeps at least that incarnation.
pub record IsHubChain (parts : ℕ) (feeds : List (List Record)) (p i : ℕ) (line : List Stamp) (bases : List ℕ) (inc agreed : ℕ)
    (chain : ChainView) : Type 0 where
  pub kept : chain.inc ≤ inc
  pub floor : chain.floor ≤ agreed
  pub run : IsRun chain.floor chain.held chain.top
  pub reached : agreed ≤ chain.top
  pub whole : upto agreed (stamps_of chain.held) ≡ past chain.floor line
  pub ends : IsEnd chain.floor (stamps_of chain.held) agreed
  pub held : All (λ (x : Piece). IsHubPiece parts feeds p i bases chain.inc x) chain.held
  pub early : All (λ (x : Piece). IsHubPiece parts feeds p i bases chain.inc x) chain.early
  pub early_inc : All (λ (x : Piece). x.stamp.inc.0 ≡ chain.inc) chain.early
  pub seen : (c : ℕ) → c ≤ inc → base_of bases c < agreed → c ≤ chain.inc

-- A row's incarnation of node i is at most the one that the chain keeps. A row of the present incarnation reaches the agreed position,
-- and its top is a place of the chain.
pub record IsHubRow (i inc agreed : ℕ) (chain : ChainView) (row : RowView) : Type 0 where
  pub kept : inc_in row.incs i ≤ chain.inc
  pub top : inc_in row.incs i ≡ inc → agreed ≤ slice_index row.tops i
  pub place : inc_in row.incs i ≡ inc → IsEnd chain.floor (stamps_of chain.held) (slice_index row.tops i)

-- a node's end in a vector: a position of the line, with the incarnation of the stamp that ends there, 0 at position 0
pub record IsHubEnd (line : List Stamp) (agreed position : ℕ) (end : End) : Type 0 where
  pub to : end.to ≡ position
  pub inc : end.inc.0 ≡ inc_at line position
  pub place : IsEnd 0 line position
  pub within : position ≤ agreed
