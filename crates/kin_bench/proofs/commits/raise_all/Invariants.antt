use Rattle.kin_bench.specs.Shape.{HasShape}
use Rattle.kin_bench.proofs.commits.raise_all.Given as goal

abbrev pub invariant-loop-i : goal.invariant-loop-i
invariant-loop-i l = HasShape l.world
