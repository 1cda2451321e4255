use Rattle.std.proofs.Common.{◌≡◌, drop}
use Rattle.csv.specs.Records.{fields_of}
use Rattle.kin_feed.specs.Records.{items_of}
use Rattle.kin_feed.proofs.ItemLists.{after}
use Rattle.kin_feed.proofs.parses.read_items.Given as goal

-- the items so far and then those to come are all
abbrev pub invariant-loop-i : goal.invariant-loop-i
invariant-loop-i l = items_of (drop 2 (fields_of l.row)) ≡ after l.items (items_of (drop l.i (fields_of l.row)))
