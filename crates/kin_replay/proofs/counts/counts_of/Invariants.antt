use Rattle.std.proofs.Common.{Some, option_map}
use Rattle.kin_replay.specs.Counts.{position_in}
use Rattle.kin_replay.proofs.Counting.{IsCounted}
use Rattle.kin_replay.proofs.counts.counts_of.Given as goal

abbrev pub invariant-loop-node : goal.invariant-loop-node
invariant-loop-node l =
    IsCounted l.fn.feeds (position_in (option_map (λ c. c.now) l.fn.was)) (position_in (Some l.fn.now)) l.node l.counts.records l.counts.bad
