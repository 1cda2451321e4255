use Rattle.kin_bench.specs.Follows.{HasRooms}
use Rattle.kin_bench.proofs.epochs.idle.Given as goal

abbrev pub invariant-loop : goal.invariant-loop
invariant-loop l = HasRooms 64 l.versions
