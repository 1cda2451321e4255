use Rattle.std.proofs.Common.{◌≡◌, ◌<◌, ◌≤◌, ◌-◌, ℕ, length, slice_index}
use Rattle.std.specs.List.{All, range_with_len}
use Rattle.kin_ids.specs.Fair.{enough, last_end, fair}
use Rattle.kin_ids.specs.Rounds.{row, rows, longest}
use Rattle.kin_table.specs.Lists.{list_at}
use Rattle.kin_table.proofs.rounds.fair.Given as goal

abbrev pub invariant-loop-place : goal.invariant-loop-place
invariant-loop-place l = record {
  end : l.place-end ≡ longest (list_at l.lists) (range_with_len 0 (length l.lists));
  len : length l.ends.items ≡ length l.prev;
  nodes : All (λ node. node < length l.lists) l.live.items;
  live : (q : ℕ) → l.place ≤ q → row (list_at l.lists) q l.live.items ≡ row (list_at l.lists) q (range_with_len 0 (length l.lists));
  ends : (i : ℕ) → last_end (slice_index l.ends.items i) i (enough l.wanted (rows (list_at l.lists) (range_with_len 0 (length l.lists)) l.place (l.place-end - l.place)))
      ≡ fair (slice_index l.prev) (list_at l.lists) (length l.prev) l.n i;
}
