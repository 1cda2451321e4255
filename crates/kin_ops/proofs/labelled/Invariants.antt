use Rattle.std.proofs.Common.{◌≡◌, ◌+◌, ◌++◌, length}
use Rattle.std.specs.Vec.Iter.{into_iter_items}
use Rattle.kin_ops.specs.Pieces.{labelled}
use Rattle.kin_ops.proofs.labelled.Given as goal

abbrev pub invariant-loop-ops : goal.invariant-loop-ops
invariant-loop-ops l = record {
  made : l.all.items ++ labelled l.stamp l.base l.part (into_iter_items l.ops-iterator) ≡ labelled l.stamp l.base 0 l.fn.lists.items;
  left : l.part + length (into_iter_items l.ops-iterator) ≡ length l.fn.lists.items;
}
