use Rattle.std.proofs.Common.{◌≡◌, take, map}
use Rattle.kin_rules.proofs.layers.first_row.Given as goal

-- the first value for each so far
abbrev pub invariant-loop-own : goal.invariant-loop-own
invariant-loop-own g l = l.row.items ≡ map (λ x. (g.R.PullRule.seen l.rule).first) (take l.own-index l.facts)
