use Rattle.kin_bench.specs.Follows.{HasRooms}
use Rattle.kin_bench.proofs.epochs.spread.Given as goal

abbrev pub invariant-loop-epoch : goal.invariant-loop-epoch
invariant-loop-epoch l = HasRooms 4 l.versions
