use Rattle.std.proofs.Common.{◌≡◌, take, map}
use Rattle.kin_rules.proofs.scratches.said_counts.Given as goal

abbrev pub invariant-loop-user : goal.invariant-loop-user
invariant-loop-user g l = l.counts.items ≡ map (g.V.View.seen l.view).said (take l.user-index l.users)
