use Rattle.std.proofs.Common.{◌≡◌, ◌-◌, ◌≤◌, length, take}
use Rattle.kin_io.specs.Outside.{Grew, flushed_after}
use Rattle.kin_io.proofs.sinks.put_all.Given as goal

-- the bytes before the place are taken
abbrev pub invariant-loop-at : goal.invariant-loop-at
invariant-loop-at g l = record {
  within : l.at ≤ length l.bytes;
  grew : Grew (g.O.Sink.taken l.fn.sink) (g.O.Sink.taken l.sink) (take l.at l.bytes);
  wet : g.O.Sink.flushed l.sink ≡ flushed_after l.at (g.O.Sink.flushed l.fn.sink);
  calm : g.O.Sink.faults l.sink ≡ g.O.Sink.faults l.fn.sink;
}

abbrev pub decreases-loop-at : goal.decreases-loop-at
decreases-loop-at g l = length l.bytes - l.at
