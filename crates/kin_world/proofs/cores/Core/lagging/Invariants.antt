use Rattle.std.proofs.Common.{ℕ, ◌<◌, ◌≤◌}
use Rattle.kin_hub.specs.Hubs.{committed_in}
use Rattle.kin_world.proofs.cores.Core.lagging.Given as goal

-- the partitions so far have committed the epoch
abbrev pub invariant-loop-p : goal.invariant-loop-p
invariant-loop-p l = (q : ℕ) → q < l.p → l.epoch ≤ committed_in l.self.hub q
