use Rattle.std.proofs.Common.{◌∙◌, is_some, sym, ap}
use Rattle.kin_push.proofs.Starting.{delta-more, starts-all, starts-none}
use Rattle.kin_push.proofs.begins.add_kind.Goals as goal

pub returns-then-is_none : goal.returns-then-is_none
returns-then-is_none g c u = starts-none (g.R.PushRule.seen c.args.rule.now) c.args.deltas.now c.args.kind u _
    (sym (ap is_some c.along.ensures) ∙ c.if-is_none.ensures)

pub loop-delta-preserved : goal.loop-delta-preserved
loop-delta-preserved g c u =
    delta-more _ _ _ c.args.kind u c.args.deltas.now c.loop-delta.delta-index c.delta-item.result c.pairs_of.result.now
    c.loop-delta-test.true c.delta-item.is c.pairs_of.ensures (c.loop-delta.invariant u) (c.in_ok-add_starts.ensures u)

pub returns : goal.returns
returns g c u =
    starts-all (g.R.PushRule.seen c.args.rule.now) c.args.deltas.now c.args.kind u _ _ c.loop-delta.delta-index
    (sym (ap is_some c.along.ensures) ∙ c.if-is_none.ensures) c.loop-delta-test.false (c.loop-delta.invariant u)
