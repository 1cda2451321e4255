use Rattle.std.proofs.Common.{◌≤◌}
use Rattle.kin_pull.proofs.passes.are_many.Given as goal

-- no more are counted than were looked at
abbrev pub invariant-loop-mark : goal.invariant-loop-mark
invariant-loop-mark l = l.count ≤ l.mark-index
