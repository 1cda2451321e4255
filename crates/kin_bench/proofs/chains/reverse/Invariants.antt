use Rattle.std.proofs.Common.{◌≡◌, length}
use Rattle.kin_bench.proofs.chains.reverse.Given as goal

abbrev pub invariant-loop-left : goal.invariant-loop-left
invariant-loop-left l = length l.held ≡ 1
