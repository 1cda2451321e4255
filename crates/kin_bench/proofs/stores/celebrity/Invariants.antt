use Rattle.kin_bench.specs.Room.{HasRoom}
use Rattle.kin_bench.proofs.stores.celebrity.Given as goal

abbrev pub invariant-loop-left : goal.invariant-loop-left
invariant-loop-left l = HasRoom l.store
