use Rattle.kin_mine.specs.Marks.{IsFirstIn}
use Rattle.kin_mine.proofs.lanes.first_of.Given as goal

-- the first place in the columns so far
abbrev pub invariant-loop-on : goal.invariant-loop-on
invariant-loop-on l = IsFirstIn l.marks l.on-index l.first
