use Rattle.std.proofs.Common.{◌∙◌, List, ap, ap₂, subst}
use Rattle.kin_ids.specs.declared.ids.User.{User}
use Rattle.kin_push.specs.Begins.{IsEntered}
use Rattle.kin_push.specs.Engines.{Engine, Planned, columns_of, widened}
use Rattle.kin_push.specs.States.{PushState, is_active}
use Rattle.kin_push.proofs.engines.PushEngine.enter.Goals as goal

pub enter_in-requires-clause-quiet : goal.enter_in-requires-clause-quiet
enter_in-requires-clause-quiet g c u = ap (λ (s : PushState). is_active s u)
    (c.take_wide.ensures ∙ ap₂ (λ (e : Engine _) (p : Planned). widened e.state p.wide) c.self.view_is c.plan.view_is) ∙ c.requires.quiet u

pub returns-clause-entered : goal.returns-clause-entered
returns-clause-entered g c =
    subst (λ (e : Engine _). IsEntered (g.R.PushRule.seen e.rule) c.args.plan.starts (widened c.args.self.now.state c.args.plan.wide)
    (columns_of c.enter_in.new.columns)) c.self.view_is
    (subst (λ (us : List User). IsEntered (g.R.PushRule.seen c.self.inside.rule) us (widened c.args.self.now.state c.args.plan.wide)
    (columns_of c.enter_in.new.columns)) (c.as_slice.ensures.value ∙ ap (λ (p : Planned). p.starts) c.plan.view_is)
    (subst (λ (s : PushState). IsEntered (g.R.PushRule.seen c.self.inside.rule) c.as_slice.result.now s
    (columns_of c.enter_in.new.columns)) (c.take_wide.ensures
    ∙ ap₂ (λ (e : Engine _) (p : Planned). widened e.state p.wide) c.self.view_is c.plan.view_is) c.enter_in.ensures.entered))
