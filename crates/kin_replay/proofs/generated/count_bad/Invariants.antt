use Rattle.std.proofs.Common.{take}
use Rattle.kin_replay.proofs.Counting.{AreCounted}
use Rattle.kin_replay.proofs.generated.count_bad.Given as goal

abbrev pub invariant-loop-feed : goal.invariant-loop-feed
invariant-loop-feed l = AreCounted (take l.feed-index l.feeds) l.bad
