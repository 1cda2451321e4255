use Rattle.std.proofs.Common.{◌≡◌, ◌+◌, ◌≤◌, take}
use Rattle.kin_hub.specs.Hubs.{cuts_in}
use Rattle.kin_report.specs.Report.{scheduled}
use Rattle.kin_world.specs.Stands.{HasHistory}
use Rattle.kin_world.specs.Worlds.{setting_of}
use Rattle.kin_replay.specs.Plays.{Plays, MayUnflush}
use Rattle.kin_replay.proofs.plays.play_lines.Given as goal

-- the lines so far were played, and each of them cut at most one epoch
abbrev pub invariant-loop-line : goal.invariant-loop-line
invariant-loop-line g l = record {
  setting : setting_of l.world ≡ setting_of l.fn.world;
  has : HasHistory l.world;
  cuts : cuts_in l.world.hub ≤ cuts_in l.fn.world.hub + l.line-index;
  plays : Plays l.printing.options l.printing.trace (scheduled (take l.line-index l.lines)) (record { world = l.fn.world; taken = g.O.Sink.taken l.fn.out }) (record { world = l.world; taken = g.O.Sink.taken l.out });
  flushed : MayUnflush (g.O.Sink.flushed l.fn.out) (g.O.Sink.flushed l.out);
  calm : g.O.Sink.faults l.out ≡ g.O.Sink.faults l.fn.out;
}
