-- Which records the agreed order has, and which the transactions of a line.
use Rattle.std.specs.Prelude.{ℕ, ◌≡◌, ◌<◌, ◌≤◌, ◌+◌, ◌-◌, ◌==◌, List, [], ◌∷◌, ◌++◌, All, if◌then◌else◌, take, length, map}
use Rattle.kin_ids.specs.Types.{Stamp, Record}
use Rattle.kin_ids.specs.Users.{IsAscending}
use Rattle.kin_ids.specs.Lines.{IsLine, IsEnd, upto, past}
use Rattle.kin_ids.specs.Order.{Entry, feed_at, entries, between, order, within}

-- a record with its number in the feed
pub record Counted : Type 0 where
  pub number : ℕ
  pub content : Record

-- records that follow position n, each with its number
abbrev pub counted : ℕ → List Record → List Counted
counted n [] = []
counted n (r ∷ rs) = record { number = n + 1; content = r } ∷ counted (n + 1) rs

-- the records of a node among these, each with its number
abbrev pub of_feed : ℕ → List Entry → List Counted
of_feed i [] = []
of_feed i (x ∷ xs) = if x.place.ingest.0 == i then record { number = x.place.number; content = x.content } ∷ of_feed i xs else of_feed i xs

-- An entry of epoch e and node i: e is from 1 to k, i is the number of a feed, and the record's number is past vector e-1 and up to
-- vector e.
pub record IsOfEpoch (feeds : List (List Record)) (vectors : ℕ → ℕ → ℕ) (k : ℕ) (x : Entry) : Type 0 where
  pub first : 0 < x.place.epoch.0
  pub last : x.place.epoch.0 ≤ k
  pub node : x.place.ingest.0 < length feeds
  pub past : vectors (x.place.epoch.0 - 1) x.place.ingest.0 < x.place.number
  pub upto : x.place.number ≤ vectors x.place.epoch.0 x.place.ingest.0

-- the agreed order has, per node, the records numbered 1 to the node's position, each once, in the epoch that brings it, and by ascending place
pub record IsAgreedOrder (feeds : List (List Record)) (vectors : ℕ → ℕ → ℕ) (k : ℕ) : Type 0 where
  pub each : (i : ℕ) → i < length feeds → of_feed i (order feeds vectors k) ≡ counted 0 (take (vectors k i) (feed_at feeds i))
  pub epochs : All (IsOfEpoch feeds vectors k) (order feeds vectors k)
  pub ascend : IsAscending (map (λ x. x.place) (order feeds vectors k))

-- positions begin at 0 and don't fall
pub record DoNotFall (feeds : List (List Record)) (vectors : ℕ → ℕ → ℕ) (k : ℕ) : Type 0 where
  pub start : (i : ℕ) → i < length feeds → vectors 0 i ≡ 0
  pub grow : (j i : ℕ) → j < k → i < length feeds → vectors j i ≤ vectors (j + 1) i

abbrev pub OrderLaw : Type 0
OrderLaw = (feeds : List (List Record)) (vectors : ℕ → ℕ → ℕ) (k : ℕ) → DoNotFall feeds vectors k → IsAgreedOrder feeds vectors k

-- the records of stamps, one stamp after the other
abbrev pub line_records : List Record → List Stamp → List Record
line_records feed [] = []
line_records feed (s ∷ ss) = between feed s.from s.to ++ line_records feed ss

-- the records of a node's stamps in an epoch, each at its place
abbrev pub line_entries : ℕ → ℕ → List Record → List Stamp → List Entry
line_entries e i feed [] = []
line_entries e i feed (s ∷ ss) = entries e i s.from (between feed s.from s.to) ++ line_entries e i feed ss

-- the transactions of a line between two of its ends have the records between them
abbrev pub BetweenEndsLaw : Type 0
BetweenEndsLaw = (feed : List Record) (line : List Stamp) (was now : ℕ) → IsLine 0 line → IsEnd 0 line was → IsEnd 0 line now → was ≤ now →
    line_records feed (past was (upto now line)) ≡ between feed was now

-- what is within a vector is the line's front up to the position
abbrev pub WithinLaw : Type 0
WithinLaw = (lines : ℕ → List Stamp) (vectors : ℕ → ℕ → ℕ) (k i at : ℕ) → IsLine at (lines i) →
    within lines vectors k i ≡ upto (vectors k i) (lines i)
