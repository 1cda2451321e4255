use Rattle.kin_world.specs.Stands.{HasHistory}
use Rattle.kin_replay.specs.Left.{drain_left}
use Rattle.kin_replay.proofs.WorldDrains.{Goes}
use Rattle.kin_replay.proofs.generated.drain.Given as goal

-- a front of the drain was taken
abbrev pub invariant-loop-event : goal.invariant-loop-event
invariant-loop-event l = record {
  has : HasHistory l.world;
  goes : Goes l.fn.world l.world;
}

abbrev pub decreases-loop-event : goal.decreases-loop-event
decreases-loop-event l = drain_left l.world
