use Rattle.std.proofs.Common.{sym, subst}
use Rattle.kin_push.specs.Engines.{Engine, IsSettled, columns_of}
use Rattle.kin_push.specs.Facts.{On}
use Rattle.kin_push.proofs.engines.PushEngine.settle.Goals as goal

pub settle_in-requires-clause-on : goal.settle_in-requires-clause-on
settle_in-requires-clause-on g c = subst (λ (e : Engine _). On (g.R.PushRule.seen e.rule) (g.V.View.seen c.args.view.now) e.state)
    (sym c.self.view_is) c.requires

pub returns-clause-settled : goal.returns-clause-settled
returns-clause-settled g c =
    subst (λ (e : Engine _). IsSettled (g.R.PushRule.seen e.rule) (g.V.View.seen c.args.view.now) c.args.steps.now c.settle_in.new.steps
    e.state (columns_of c.settle_in.new.columns)) c.self.view_is c.settle_in.ensures.settled
