use Rattle.std.proofs.Common.{◌≡◌, ◌<◌, ◌≤◌, ℕ, None, length, slice_index_or, unwrap_or}
use Rattle.kin_pull.proofs.kept.pour.Given as goal

-- the values at the places so far are poured
abbrev pub invariant-loop-i : goal.invariant-loop-i
invariant-loop-i g l = record {
  long : length l.row.items ≡ length l.initial.row.items;
  same : length l.drawn.items ≡ length l.initial.drawn.items;
  done : (k : ℕ) (d : g.row.V.Denot) → k < l.i → slice_index_or l.row.items k d
      ≡ unwrap_or (slice_index_or l.initial.drawn.items k None) (slice_index_or l.initial.row.items k d);
  left : (k : ℕ) (d : g.row.V.Denot) → l.i ≤ k → slice_index_or l.row.items k d ≡ slice_index_or l.initial.row.items k d;
  still : (k : ℕ) → l.i ≤ k → slice_index_or l.drawn.items k None ≡ slice_index_or l.initial.drawn.items k None;
}
