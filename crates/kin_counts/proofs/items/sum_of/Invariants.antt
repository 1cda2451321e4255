use Rattle.std.proofs.Common.{◌≡◌, sum, take}
use Rattle.kin_counts.proofs.items.sum_of.Given as goal

abbrev pub invariant-loop-n : goal.invariant-loop-n
invariant-loop-n l = l.total ≡ sum (take l.n-index l.numbers)
