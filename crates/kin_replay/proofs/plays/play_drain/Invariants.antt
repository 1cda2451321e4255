use Rattle.std.proofs.Common.{◌≡◌}
use Rattle.kin_world.specs.Stands.{HasHistory}
use Rattle.kin_world.specs.Worlds.{setting_of}
use Rattle.kin_replay.specs.Left.{drain_left}
use Rattle.kin_replay.specs.Plays.{MayUnflush}
use Rattle.kin_replay.proofs.Drains.{Drains}
use Rattle.kin_replay.proofs.plays.play_drain.Given as goal

-- a front of the drain was played
abbrev pub invariant-loop-event : goal.invariant-loop-event
invariant-loop-event g l = record {
  setting : setting_of l.world ≡ setting_of l.fn.world;
  has : HasHistory l.world;
  drains : Drains l.printing.options l.printing.trace (record { world = l.fn.world; taken = g.O.Sink.taken l.fn.out }) (record { world = l.world; taken = g.O.Sink.taken l.out });
  flushed : MayUnflush (g.O.Sink.flushed l.fn.out) (g.O.Sink.flushed l.out);
  calm : g.O.Sink.faults l.out ≡ g.O.Sink.faults l.fn.out;
}

abbrev pub decreases-loop-event : goal.decreases-loop-event
decreases-loop-event g l = drain_left l.world
