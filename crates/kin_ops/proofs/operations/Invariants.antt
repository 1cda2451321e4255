use Rattle.std.proofs.Common.{◌≡◌, ◌+◌, ◌++◌, drop}
use Rattle.kin_ids.specs.Operations.{all_ops}
use Rattle.kin_ops.specs.Wanted.{wanted_of}
use Rattle.kin_ops.proofs.operations.Given as goal

abbrev pub invariant-loop-content : goal.invariant-loop-content
invariant-loop-content l = record {
  done : l.ops ++ wanted_of l.wanted (all_ops l.number (drop l.content-index l.records)) ≡ wanted_of l.wanted (all_ops l.from l.records);
  at : l.number ≡ l.from + l.content-index;
}
