use Rattle.std.proofs.Common.{◌≡◌, ◌<◌, ◌++◌, ℕ, [], length, drop, slice_index_or}
use Rattle.kin_ops.specs.Pieces.{of_part}
use Rattle.kin_ops.proofs.spread.Given as goal

abbrev pub invariant-loop-numbered : goal.invariant-loop-numbered
invariant-loop-numbered l = record {
  count : length l.lists.items ≡ l.parts;
  each : (p : ℕ) → p < l.parts → slice_index_or l.lists.items p [] ++ of_part l.parts p (drop l.numbered-index l.ops) ≡ of_part l.parts p l.ops;
}
