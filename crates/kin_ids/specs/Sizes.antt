-- The limits, and feeds within them.
use Rattle.std.specs.Prelude.{ℕ, ◌≤◌, List, All, length, sum_by}
use Rattle.kin_ids.specs.Types.{Record}
use Rattle.kin_ids.specs.declared.ops.Record.TheVariants as record_kind

-- the most records of all feeds together
abbrev pub most_records : ℕ
most_records = 2097152

-- the most bytes of all feeds together, and of a schedule
abbrev pub most_bytes : ℕ
most_bytes = 33554432

-- the most lines of a schedule
abbrev pub most_lines : ℕ
most_lines = 1048576

-- the most partitions
abbrev pub most_parts : ℕ
most_parts = 64

-- the most feeds
abbrev pub most_feeds : ℕ
most_feeds = 16

-- the most landmarks
abbrev pub most_landmarks : ℕ
most_landmarks = 16

-- the most records of a transaction
abbrev pub most_batch : ℕ
most_batch = 16

-- the most items of a tweet
abbrev pub most_items : ℕ
most_items = 16

-- a tweet has at most 16 items
abbrev pub IsSmall : Record → Type 0
IsSmall (record_kind.Tweet u items) = length items ≤ most_items
IsSmall (record_kind.Follow u v) = Unit {0}
IsSmall (record_kind.Unfollow u v) = Unit {0}
IsSmall record_kind.Bad = Unit {0}

-- feeds have at most 2097152 records together, and no tweet has more than 16 items
pub record AreWithinLimits (feeds : List (List Record)) : Type 0 where
  pub records : sum_by (λ (feed : List Record). length feed) feeds ≤ most_records
  pub small : All (λ (feed : List Record). All IsSmall feed) feeds
