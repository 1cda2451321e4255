use Rattle.std.proofs.Common.{◌≡◌, length}
use Rattle.kin_bench.proofs.chains.forward.Given as goal

abbrev pub invariant-loop-from : goal.invariant-loop-from
invariant-loop-from l = length l.held ≡ 1
