use Rattle.std.proofs.Common.{◌≡◌, ◌≤◌, ℕ, None, length, slice_index_or}
use Rattle.kin_pull.proofs.ends.no_cells.Given as goal

-- nothing at the places so far
abbrev pub invariant-loop-i : goal.invariant-loop-i
invariant-loop-i g l = record {
  long : length l.cells.items ≡ l.i;
  most : l.i ≤ l.fn.n;
  none : (p : ℕ) → slice_index_or l.cells.items p None ≡ None;
}
