-- The operations of records, each with the partition to which it belongs.
use Rattle.std.specs.Prelude.{ℕ, ◌+◌, ◌≡◌, ◌<◌, ◌≤◌, ◌==◌, Bool, true, false, List, [], ◌∷◌, ◌++◌, filter, length}
use Rattle.kin_ids.specs.Types.{User, Item, Record, Op, Subject, Numbered, Piece, Stamp}
use Rattle.kin_ids.specs.declared.ops.Item.TheVariants as item
use Rattle.kin_ids.specs.declared.ops.Record.TheVariants as record_kind
use Rattle.kin_ids.specs.declared.ops.Op.TheVariants as op
use Rattle.kin_ids.specs.declared.ops.Subject.TheVariants as subject
use Rattle.kin_ids.specs.Parting.{user_part, tag_part}
use Rattle.kin_ids.specs.Order.{feed_at, between}
use Rattle.kin_ids.specs.Sizes.{most_batch}

-- the operations of an item of a tweet by u
abbrev pub item_ops : User → Item → List Op
item_ops u (item.At w) = op.MentionOut u w ∷ op.MentionIn w u ∷ op.Said w ∷ []
item_ops u (item.Hash t) = op.Use u t ∷ op.TagUse t u ∷ []

-- the operations of its items, in order
abbrev pub items_ops : User → List Item → List Op
items_ops u [] = []
items_ops u (x ∷ xs) = item_ops u x ++ items_ops u xs

-- the operations of a record, in order
abbrev pub record_ops : Record → List Op
record_ops (record_kind.Follow u v) = op.AddOut u v ∷ op.AddIn v u ∷ []
record_ops (record_kind.Unfollow u v) = op.DropOut u v ∷ op.DropIn v u ∷ []
record_ops (record_kind.Tweet u items) = items_ops u items
record_ops record_kind.Bad = []

-- whether a record is Bad
abbrev pub is_bad : Record → Bool
is_bad record_kind.Bad = true
is_bad _ = false

-- to whom an operation belongs: the user or the tag that comes first
abbrev pub subject_of : Op → Subject
subject_of (op.AddOut u v) = subject.User u
subject_of (op.AddIn v u) = subject.User v
subject_of (op.DropOut u v) = subject.User u
subject_of (op.DropIn v u) = subject.User v
subject_of (op.MentionOut u w) = subject.User u
subject_of (op.MentionIn w u) = subject.User w
subject_of (op.Said w) = subject.User w
subject_of (op.Use u t) = subject.User u
subject_of (op.TagUse t u) = subject.Tag t

-- the partition where a user or a tag lives
abbrev pub subject_part : ℕ → Subject → ℕ
subject_part parts (subject.User u) = user_part parts u
subject_part parts (subject.Tag t) = tag_part parts t

-- the partition to which an operation belongs
abbrev pub op_part : ℕ → Op → ℕ
op_part parts o = subject_part parts (subject_of o)

-- operations with the number of their record
abbrev pub numbered : ℕ → List Op → List Numbered
numbered n [] = []
numbered n (o ∷ os) = record { number = n; op = o } ∷ numbered n os

-- the operations of records that follow position n, in record order
abbrev pub all_ops : ℕ → List Record → List Numbered
all_ops n [] = []
all_ops n (r ∷ rs) = numbered (n + 1) (record_ops r) ++ all_ops (n + 1) rs

-- those of one partition
abbrev pub part_ops : ℕ → ℕ → ℕ → List Record → List Numbered
part_ops parts p n rs = filter (λ x. op_part parts x.op == p) (all_ops n rs)

-- a transaction of a feed of this length: 1 to 16 records of it
pub record IsTransaction (len : ℕ) (s : Stamp) : Type 0 where
  pub some : s.from < s.to
  pub few : s.to ≤ s.from + most_batch
  pub inside : s.to ≤ len

-- the records of a stamp
abbrev pub stamp_records : List (List Record) → Stamp → List Record
stamp_records feeds s = between (feed_at feeds s.ingest.0) s.from s.to

-- a well-formed piece begins at or past its base and has 1 to 16 records
pub record IsWellFormed (x : Piece) : Type 0 where
  pub after_base : x.base ≤ x.stamp.from
  pub some : x.stamp.from < x.stamp.to
  pub few : x.stamp.to ≤ x.stamp.from + most_batch

-- the piece fits the feeds: it has exactly its partition's operations of its stamp's records
pub record Fits (parts : ℕ) (feeds : List (List Record)) (x : Piece) : Type 0 where
  pub formed : IsWellFormed x
  pub inside : x.stamp.to ≤ length (feed_at feeds x.stamp.ingest.0)
  pub exact : x.ops ≡ part_ops parts x.part.0 x.stamp.from (stamp_records feeds x.stamp)
