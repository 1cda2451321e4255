use Rattle.std.proofs.Common.{sym, subst}
use Rattle.kin_push.specs.Engines.{Engine, IsTurnOf, columns_of}
use Rattle.kin_push.specs.Facts.{On}
use Rattle.kin_push.proofs.engines.PushEngine.turn.Goals as goal

pub turn_in-requires-clause-on : goal.turn_in-requires-clause-on
turn_in-requires-clause-on g c = subst (λ (e : Engine _). On (g.R.PushRule.seen e.rule) (g.V.View.seen c.args.view.now) e.state)
    (sym c.self.view_is) c.requires

pub returns-clause-of : goal.returns-clause-of
returns-clause-of g c =
    subst (λ (e : Engine _). IsTurnOf (g.R.PushRule.seen e.rule) (g.V.View.seen c.args.view.now) c.args.u c.args.steps.now
    c.turn_in.new.steps e.state (columns_of c.turn_in.new.columns)) c.self.view_is c.turn_in.ensures.of
