use Rattle.std.proofs.Common.{◌≤◌, length}
use Rattle.kin_steps.proofs.opens.landmarks_of.Given as goal

abbrev pub invariant-loop-word : goal.invariant-loop-word
invariant-loop-word l = length l.users.items ≤ 16
