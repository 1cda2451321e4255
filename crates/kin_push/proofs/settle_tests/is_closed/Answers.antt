use Rattle.kin_push.proofs.ClosedViews.{closed-all, closed-more}
use Rattle.kin_push.proofs.settle_tests.is_closed.Goals as goal

pub loop-user-preserved : goal.loop-user-preserved
loop-user-preserved g c =
    closed-more (g.V.View.seen c.args.view.now) c.args.users.now c.loop-user.user-index (record { 0 = 0 }) c.loop-user-test.true
    c.loop-user.invariant c.if-not-is_closed_at.ensures

pub returns : goal.returns
returns g c = closed-all (g.V.View.seen c.args.view.now) c.args.users.now c.loop-user.user-index c.loop-user-test.false
    c.loop-user.invariant
