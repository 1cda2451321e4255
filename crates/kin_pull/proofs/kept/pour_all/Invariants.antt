use Rattle.std.proofs.Common.{◌≡◌, ◌<◌, ◌≤◌, ℕ, None, [], length, map, slice_index_or, unwrap_or}
use Rattle.kin_pull.proofs.kept.pour_all.Given as goal

-- the rows so far are poured
abbrev pub invariant-loop-j : goal.invariant-loop-j
invariant-loop-j g l = record {
  rows : length l.rows.items ≡ length l.initial.rows.items;
  same : length l.draft.items ≡ length l.initial.draft.items;
  longs : (j : ℕ) → length (slice_index_or (map (λ r. r.items) l.rows.items) j [])
      ≡ length (slice_index_or (map (λ r. r.items) l.initial.rows.items) j []);
  done : (j i : ℕ) (d : g.row.V.Denot) → j < l.j → slice_index_or (slice_index_or (map (λ r. r.items) l.rows.items) j []) i d
      ≡ unwrap_or (slice_index_or (slice_index_or (map (λ r. r.items) l.initial.draft.items) j []) i None) (slice_index_or
      (slice_index_or (map (λ r. r.items) l.initial.rows.items) j []) i d);
  left : (j : ℕ) → l.j ≤ j → slice_index_or (map (λ r. r.items) l.rows.items) j []
      ≡ slice_index_or (map (λ r. r.items) l.initial.rows.items) j [];
  still : (j : ℕ) → l.j ≤ j → slice_index_or (map (λ r. r.items) l.draft.items) j []
      ≡ slice_index_or (map (λ r. r.items) l.initial.draft.items) j [];
}
