use Rattle.std.proofs.Common.{refl}
use Rattle.kin_rules.proofs.Pushes.{mapped-push}
use Rattle.kin_rules.proofs.layers.first_row.Goals as goal

pub loop-own-preserved : goal.loop-own-preserved
loop-own-preserved g c =
    mapped-push (λ x. (g.R.PullRule.seen c.args.rule.now).first) c.args.facts.now c.args.facts.now c.loop-own.own-index c.own-item.result _ c.in_ok-first.field-0 c.loop-own.row.items c.push.new.self.items
    refl c.loop-own-test.true c.own-item.is c.in_ok-first.ensures c.loop-own.invariant c.in_ok-push.ensures.items
