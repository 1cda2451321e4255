use Rattle.std.proofs.Common.{◌≡◌, ◌<◌, ℕ, length, slice_index}
use Rattle.kin_table.specs.Vectors.{end_at}
use Rattle.kin_table.specs.Lists.{list_at}
use Rattle.kin_table.specs.Ends.{end_of_cut}
use Rattle.kin_table.proofs.ends.ends_of.Given as goal

abbrev pub invariant-loop-i : goal.invariant-loop-i
invariant-loop-i l = record {
  count : length l.ends.items ≡ l.i;
  each : (k : ℕ) → k < l.i → end_at l.ends.items k ≡ end_of_cut (end_at l.last k) (list_at l.lists k) (slice_index l.positions k);
}
