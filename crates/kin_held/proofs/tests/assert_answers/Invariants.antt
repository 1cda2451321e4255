use Rattle.std.proofs.Common.{◌≡◌, length}
use Rattle.kin_held.proofs.tests.assert_answers.Given as goal

abbrev pub invariant-loop-inc : goal.invariant-loop-inc
invariant-loop-inc g l = length l.held ≡ 1
