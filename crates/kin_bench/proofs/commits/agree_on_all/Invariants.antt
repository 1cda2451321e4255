use Rattle.kin_bench.specs.Shape.{HasShape}
use Rattle.kin_bench.proofs.commits.agree_on_all.Given as goal

abbrev pub invariant-loop-round : goal.invariant-loop-round
invariant-loop-round l = HasShape l.world
