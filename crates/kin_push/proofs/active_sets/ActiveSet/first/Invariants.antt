use Rattle.std.proofs.Common.{◌≡◌, ◌*◌, ◌<◌, ℕ, false, slice_index_or}
use Rattle.kin_push.proofs.active_sets.ActiveSet.first.Given as goal

-- no place of the blocks so far is marked
abbrev pub invariant-loop-block : goal.invariant-loop-block
invariant-loop-block l = (k : ℕ) → k < 256 * l.block → slice_index_or l.self-inside.on.items k false ≡ false
