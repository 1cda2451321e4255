use Rattle.kin_bench.specs.Follows.{HasRooms}
use Rattle.kin_bench.proofs.epochs.commit_all.Given as goal

abbrev pub invariant-loop-p : goal.invariant-loop-p
invariant-loop-p l = HasRooms l.parts l.versions
