use Rattle.std.proofs.Common.{◌≡◌, ◌<◌, ◌||◌, ℕ, None, false, is_some, slice_index_or}
use Rattle.kin_pull.proofs.kept.first_busy.Given as goal

-- nobody at the places so far
abbrev pub invariant-loop-i : goal.invariant-loop-i
invariant-loop-i l = (j : ℕ) → j < l.i → (is_some (slice_index_or l.low j None) || is_some (slice_index_or l.told j None)) ≡ false
