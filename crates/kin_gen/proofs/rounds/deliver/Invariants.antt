use Rattle.std.proofs.Common.{◌≡◌, ◌++◌, map, take}
use Rattle.kin_gen.specs.Rounds as rounds
use Rattle.kin_gen.proofs.rounds.deliver.Given as goal

-- the pieces so far have come to the first partitions
abbrev pub invariant-loop-p : goal.invariant-loop-p
invariant-loop-p l = l.events.items ≡ l.initial.events.items ++ map (rounds.delivered l.ingest.0 l.inc.0 l.to) (take l.p-index l.order)
