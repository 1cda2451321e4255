use Rattle.std.proofs.Common.{◌≡◌, ◌<◌, ℕ, None, length, slice_index_or}
use Rattle.kin_pull.proofs.kept.wipe.Given as goal

-- nothing is left at the places so far
abbrev pub invariant-loop-i : goal.invariant-loop-i
invariant-loop-i g l = record {
  long : length l.cells.items ≡ length l.initial.cells.items;
  none : (k : ℕ) → k < l.i → slice_index_or l.cells.items k None ≡ None;
}
