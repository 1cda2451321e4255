use Rattle.std.proofs.Common.{◌≡◌, false, replicate}
use Rattle.kin_mine.proofs.lanes.no_marks.Given as goal

-- so many columns so far
abbrev pub invariant-loop-column : goal.invariant-loop-column
invariant-loop-column l = l.marks.items ≡ replicate l._column (replicate l.users false)
