use Rattle.std.proofs.Common.{◌≡◌, None, IfSome, subst}
use Rattle.kin_push.specs.Engines.{Engine, IsLeastActive}
use Rattle.kin_push.specs.States.{IsQuiet}
use Rattle.kin_push.proofs.engines.PushEngine.least_active.Goals as goal

pub returns-clause-some : goal.returns-clause-some
returns-clause-some g c = subst (λ (e : Engine _). IfSome c.least_in_columns.result (IsLeastActive e.state)) c.self.view_is
    c.least_in_columns.ensures.some

pub returns-clause-none : goal.returns-clause-none
returns-clause-none g c = subst (λ (e : Engine _). c.least_in_columns.result ≡ None → IsQuiet e.state) c.self.view_is
    c.least_in_columns.ensures.none
