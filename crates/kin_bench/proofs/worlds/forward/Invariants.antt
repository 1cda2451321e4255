use Rattle.kin_bench.specs.Shape.{HasShape}
use Rattle.kin_bench.proofs.worlds.forward.Given as goal

abbrev pub invariant-loop-done : goal.invariant-loop-done
invariant-loop-done l = HasShape l.world
