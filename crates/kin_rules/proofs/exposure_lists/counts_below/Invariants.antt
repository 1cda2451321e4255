use Rattle.std.proofs.Common.{◌≡◌, ◌<◌, ◌==◌, ℕ, take, get_or, length, count_by}
use Rattle.kin_rules.proofs.exposure_lists.counts_below.Given as goal

abbrev pub invariant-loop-k : goal.invariant-loop-k
invariant-loop-k l = (length l.counts.items ≡ l.n) × ((j : ℕ) → j < l.n → get_or l.counts.items j 0 ≡ count_by (λ x. x == j) (take l.k-index l.ks))
