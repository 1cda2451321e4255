-- The pieces of a transaction.
use Rattle.std.specs.Prelude.{ℕ, ◌≡◌, ◌≤◌, ◌<◌, ◌-◌, ◌+◌, ◌==◌, List, [], ◌∷◌, filter, length, slice_index_or}
use Rattle.kin_ids.specs.declared.stamps.Stamp.{Stamp}
use Rattle.kin_ids.specs.declared.ops.Record.{Record}
use Rattle.kin_ids.specs.declared.ops.Numbered.{Numbered}
use Rattle.kin_ids.specs.declared.ops.Piece.{Piece}
use Rattle.kin_ids.specs.Operations.{op_part, part_ops, stamp_records, Fits}
use Rattle.kin_ids.specs.Order.{feed_at}

-- a stamp of 1 to 16 records, at or past the base of its incarnation, and its records
pub record IsStampOf (s : Stamp) (base : ℕ) (records : List Record) : Type 0 where
  pub after_base : base ≤ s.from
  pub some : s.from < s.to
  pub few : s.to ≤ s.from + 16
  pub count : length records ≡ s.to - s.from

-- the piece of partition p of a transaction with these records
pub record IsPieceOf (parts : ℕ) (s : Stamp) (base : ℕ) (records : List Record) (p : ℕ) (x : Piece) : Type 0 where
  pub stamp : x.stamp ≡ s
  pub base_is : x.base ≡ base
  pub part : x.part.0 ≡ p
  pub ops : x.ops ≡ part_ops parts p s.from records

-- these are the pieces of the partitions in order
abbrev pub ArePiecesOf : ℕ → Stamp → ℕ → List Record → List Piece → Type 0
ArePiecesOf parts s base records xs = (p : ℕ) (d : Piece) → p < parts → IsPieceOf parts s base records p (slice_index_or xs p d)

-- those of numbered operations that belong to partition p
abbrev pub of_part : ℕ → ℕ → List Numbered → List Numbered
of_part parts p xs = filter (λ x. op_part parts x.op == p) xs

-- each partition's list has its operations among these
pub record AreSpread (parts : ℕ) (lists : List (List Numbered)) (xs : List Numbered) : Type 0 where
  pub count : length lists ≡ parts
  pub each : (p : ℕ) → p < parts → slice_index_or lists p [] ≡ of_part parts p xs

-- it fits every feeds of which these are the stamp's records
abbrev pub FitsWhereOf : ℕ → Stamp → List Record → Piece → Type 0
FitsWhereOf parts s records x = (feeds : List (List Record)) → stamp_records feeds s ≡ records → s.to ≤ length (feed_at feeds s.ingest.0) → Fits parts feeds x

-- the pieces with these operations, of the partitions from p on
abbrev pub labelled : Stamp → ℕ → ℕ → List (List Numbered) → List Piece
labelled s base p [] = []
labelled s base p (ops ∷ rest) = record { stamp = s; base = base; part = record { 0 = p }; ops = ops } ∷ labelled s base (p + 1) rest
