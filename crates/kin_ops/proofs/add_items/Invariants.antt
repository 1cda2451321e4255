use Rattle.std.proofs.Common.{◌≡◌, ◌++◌, drop}
use Rattle.kin_ids.specs.Operations.{numbered, items_ops}
use Rattle.kin_ops.specs.Wanted.{wanted_of}
use Rattle.kin_ops.proofs.add_items.Given as goal

abbrev pub invariant-loop-item : goal.invariant-loop-item
invariant-loop-item l = l.ops ++ wanted_of l.wanted (numbered l.number (items_ops l.u (drop l.item-index l.items))) ≡ l.fn.ops ++ wanted_of l.wanted (numbered l.number (items_ops l.u l.items))
