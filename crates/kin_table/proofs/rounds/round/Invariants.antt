use Rattle.std.proofs.Common.{◌≡◌, ◌++◌, ℕ, List, length, slice_index, drop}
use Rattle.kin_ids.specs.Fair.{Waiting, enough, last_end}
use Rattle.kin_ids.specs.Rounds.{row}
use Rattle.kin_table.specs.Lists.{list_at}
use Rattle.kin_table.proofs.rounds.round.Given as goal

abbrev pub invariant-loop-node : goal.invariant-loop-node
invariant-loop-node l = record {
  len : length l.ends.items ≡ length l.fn.ends.items;
  ends : (rest : List Waiting) (i : ℕ) → last_end (slice_index l.ends.items i) i (enough l.left (row (list_at l.lists) l.place (drop l.node-index l.live) ++ rest))
      ≡ last_end (slice_index l.fn.ends.items i) i (enough l.wanted (row (list_at l.lists) l.place l.live ++ rest));
}
