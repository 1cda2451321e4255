use Rattle.std.proofs.Common.{◌≡◌, ◌<◌, ◌≤◌, ℕ, false, slice_index_or}
use Rattle.kin_push.proofs.active_sets.ActiveSet.first_in.Given as goal

-- no place so far is marked
abbrev pub invariant-loop-i : goal.invariant-loop-i
invariant-loop-i l = (k : ℕ) → l.fn.from ≤ k → k < l.i → slice_index_or l.self-inside.on.items k false ≡ false
