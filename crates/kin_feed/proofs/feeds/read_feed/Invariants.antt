use Rattle.std.proofs.Common.{◌≡◌, ◌-◌, ◌≤◌, ℕ, List, map, length}
use Rattle.csv.specs.Reading.{strip_bom}
use Rattle.kin_feed.specs.RowsRead.{HasRead}
use Rattle.kin_feed.specs.Records.{record_of}
use Rattle.kin_feed.specs.BadIndex.{bad_numbers}
use Rattle.kin_feed.proofs.feeds.read_feed.Given as goal

-- the rows that were read are the records so far
abbrev pub invariant-loop-bad : goal.invariant-loop-bad
invariant-loop-bad l = record {
  rows : List (List (List ℕ));
  read : HasRead l.bytes rows l.rows;
  records : l.all.items ≡ map record_of rows;
  few : length rows ≤ l.limit;
  bad : l.bad.items ≡ bad_numbers 0 l.all.items;
}

abbrev pub decreases-loop-bad : goal.decreases-loop-bad
decreases-loop-bad l = length (strip_bom l.bytes) - length l.all.items
