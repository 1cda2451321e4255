use Rattle.kin_bench.specs.Shape.{HasShape}
use Rattle.kin_bench.proofs.mining.evaluate_all.Given as goal

abbrev pub invariant-loop-epoch : goal.invariant-loop-epoch
invariant-loop-epoch l = HasShape l.world
