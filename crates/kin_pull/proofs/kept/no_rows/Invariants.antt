use Rattle.std.proofs.Common.{◌≡◌, ◌≤◌, ℕ, [], length, map, slice_index_or}
use Rattle.kin_pull.proofs.kept.no_rows.Given as goal

-- nothing in each row so far
abbrev pub invariant-loop-row : goal.invariant-loop-row
invariant-loop-row g l = record {
  long : length l.rows.items ≡ l.row;
  most : l.row ≤ l.fn.n;
  none : (j : ℕ) → slice_index_or (map (λ r. r.items) l.rows.items) j [] ≡ [];
}
