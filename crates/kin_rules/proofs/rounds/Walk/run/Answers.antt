use Rattle.std.proofs.Common.{◌≤◌, ◌+◌, ◌*◌, ◌∙◌, length, sym, ap, subst, arith}
use Rattle.kin_rules.specs.Rounds.{Tally}
use Rattle.kin_rules.specs.Going.{Going}
use Rattle.kin_rules.specs.Nets.{net_of, net_on}
use Rattle.kin_rules.proofs.EdgeRows.{edges-whole}
use Rattle.kin_rules.proofs.RoundSteps.{length-round, round-going, quiet-done, past-done}
use Rattle.kin_rules.proofs.rounds.Walk.run.Goals as goal

pub loop-cost-preserved : goal.loop-cost-preserved
loop-cost-preserved g c =
    let r = g.R.PushRule.seen c.args.rule.now in
    let done = rw (c.along.ensures, c.along-in-loop-cost.ensures) at c.in_ok-round.ensures in
    record {
      kept = ap (λ (t : Tally). length t.values) c.in_ok-round.ensures ∙ length-round c.args.follows.now c.args.mentions.now _ c.loop-cost.self ∙ c.loop-cost.invariant.kept;
      least = λ graph us are limit start.
          subst (λ (t : Tally). Going (net_on us (net_of (g.R.PushRule.seen c.args.rule.now) graph)) us (c.loop-cost.cost + 1) t) (sym done)
          (round-going (net_on us (net_of r graph)) (g.met.R.PushRule.laws c.args.rule.now) (edges-whole r graph us are.vertices) are.ascend c.args.follows.now c.args.mentions.now are.follow_rows are.mention_rows
          c.loop-cost.cost c.loop-cost.self (c.loop-cost.invariant.least graph us are limit start));
    }

pub returns-then-is_quiet-clause-least : goal.returns-then-is_quiet-clause-least
returns-then-is_quiet-clause-least g c graph us are limit start =
    let r = g.R.PushRule.seen c.args.rule.now in
    quiet-done (net_on us (net_of r graph)) (g.met.R.PushRule.laws c.args.rule.now) (edges-whole r graph us are.vertices) c.loop-cost.cost c.loop-cost.self (c.loop-cost.invariant.least graph us are limit start)
    (sym c.is_quiet.ensures ∙ c.if-is_quiet.true)

pub returns-clause-least : goal.returns-clause-least
returns-clause-least g c graph us are limit start =
    let r = g.R.PushRule.seen c.args.rule.now in
    let past : 3 * length us ≤ c.loop-cost.cost = omega (arith, limit, c.loop-cost-test.false) in
    past-done (net_on us (net_of r graph)) (g.met.R.PushRule.laws c.args.rule.now) (edges-whole r graph us are.vertices) c.loop-cost.cost c.loop-cost.self (c.loop-cost.invariant.least graph us are limit start) past
