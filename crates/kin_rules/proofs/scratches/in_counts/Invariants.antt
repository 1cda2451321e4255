use Rattle.std.proofs.Common.{◌≡◌, take, map}
use Rattle.kin_rules.specs.Scratches.{in_seen}
use Rattle.kin_rules.proofs.scratches.in_counts.Given as goal

abbrev pub invariant-loop-user : goal.invariant-loop-user
invariant-loop-user g l = l.counts.items ≡ map (in_seen (g.V.View.seen l.view)) (take l.user-index l.users)
