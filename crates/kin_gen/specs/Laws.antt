-- What holds of every generated job.
use Rattle.std.specs.Prelude.{ℕ, ◌≡◌, ◌≢◌, ◌<◌, ◌≤◌, All, length, sum_by}
use Rattle.kin_ids.specs.Sizes.{most_bytes, most_lines}
use Rattle.kin_feed.specs.Records.{records_of}
use Rattle.kin_line.specs.Lines.{lines}
use Rattle.kin_script.specs.Schedules.{IsInRange}
use Rattle.kin_gen.specs.Feeds.{Text, other, gen_feed, gen_feeds}
use Rattle.kin_gen.specs.Rounds.{feed_length, opening, rounds, gen_events}

-- the other user of an edge is another one of the users
abbrev pub OtherLaw : Type 0
OtherLaw = (users u b : ℕ) → 2 ≤ users → (other users u b < users) × (other users u b ≢ u)

-- a feed has as many records as the rounds take it to have
abbrev pub RecordsLaw : Type 0
RecordsLaw = (seed n feed : ℕ) → n ≤ 500000 → feed < 3
    → length (records_of (gen_feed seed n feed)) ≡ feed_length n feed

-- and as many lines
abbrev pub LinesLaw : Type 0
LinesLaw = (seed n feed : ℕ) → n ≤ 500000 → feed < 3
    → length (lines (gen_feed seed n feed)) ≡ feed_length n feed

-- the feeds together are within the limit of bytes
abbrev pub SmallLaw : Type 0
SmallLaw = (seed n : ℕ) → n ≤ 500000
    → sum_by (λ (text : Text). length text) (gen_feeds seed n) ≤ most_bytes

-- events are in range over three nodes and four partitions
abbrev pub RangeLaw : Type 0
RangeLaw = (seed n : ℕ) → n ≤ 500000 → All (IsInRange 3 4) (gen_events seed n)

-- a schedule has room for the events
abbrev pub FewLaw : Type 0
FewLaw = (seed n : ℕ) → n ≤ 500000 → length (gen_events seed n) ≤ most_lines

-- the rounds end by themselves: leave for more than n rounds adds nothing
abbrev pub EndLaw : Type 0
EndLaw = (seed n most : ℕ) → n ≤ most → rounds n most 1 (opening seed) ≡ rounds n n 1 (opening seed)
