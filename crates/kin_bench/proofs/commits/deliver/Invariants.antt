use Rattle.kin_bench.specs.Shape.{HasShape}
use Rattle.kin_bench.proofs.commits.deliver.Given as goal

abbrev pub invariant-loop-p : goal.invariant-loop-p
invariant-loop-p l = HasShape l.world
