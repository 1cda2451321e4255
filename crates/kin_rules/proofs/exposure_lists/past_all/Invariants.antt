use Rattle.std.proofs.Common.{◌<◌, ℕ, get_or}
use Rattle.kin_rules.proofs.exposure_lists.past_all.Given as goal

abbrev pub invariant-loop-k : goal.invariant-loop-k
invariant-loop-k l = (j : ℕ) → j < l.k-index → get_or l.ks j 0 < l.n
