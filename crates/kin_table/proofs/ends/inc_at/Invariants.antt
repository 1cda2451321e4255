use Rattle.std.proofs.Common.{◌≡◌, drop}
use Rattle.kin_table.specs.Ends.{inc_at}
use Rattle.kin_table.proofs.ends.inc_at.Given as goal

abbrev pub invariant-loop-stamp : goal.invariant-loop-stamp
invariant-loop-stamp l = inc_at (drop l.stamp-index l.stamps) l.to ≡ inc_at l.stamps l.to
