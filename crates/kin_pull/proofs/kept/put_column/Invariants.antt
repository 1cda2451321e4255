use Rattle.std.proofs.Common.{◌≡◌, ◌<◌, ◌≤◌, ◌==◌, ℕ, [], length, map, slice_index_or, if◌then◌else◌}
use Rattle.kin_pull.proofs.kept.put_column.Given as goal

-- so far
abbrev pub invariant-loop-j : goal.invariant-loop-j
invariant-loop-j g l = record {
  rows : length l.rows.items ≡ length l.initial.rows.items;
  same : length l.column.items ≡ length l.initial.column.items;
  longs : (q : ℕ) → length (slice_index_or (map (λ r. r.items) l.rows.items) q [])
      ≡ length (slice_index_or (map (λ r. r.items) l.initial.rows.items) q []);
  done : (q p : ℕ) (d : g.row.V.Denot) → q < l.j → p < length (slice_index_or (map (λ r. r.items) l.initial.rows.items) q [])
      → slice_index_or (slice_index_or (map (λ r. r.items) l.rows.items) q []) p d
      ≡ (if p == l.fn.i then slice_index_or l.initial.column.items q d else slice_index_or (slice_index_or (map
      (λ r. r.items) l.initial.rows.items) q []) p d);
  left : (q : ℕ) → l.j ≤ q → slice_index_or (map (λ r. r.items) l.rows.items) q []
      ≡ slice_index_or (map (λ r. r.items) l.initial.rows.items) q [];
  still : (q : ℕ) (d : g.row.V.Denot) → l.j ≤ q → slice_index_or l.column.items q d ≡ slice_index_or l.initial.column.items q d;
}
