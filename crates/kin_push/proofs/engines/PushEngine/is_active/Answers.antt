use Rattle.std.proofs.Common.{◌≡◌, subst}
use Rattle.kin_push.specs.Engines.{Engine}
use Rattle.kin_push.specs.States.{is_active}
use Rattle.kin_push.proofs.engines.PushEngine.is_active.Goals as goal

pub returns : goal.returns
returns g c = subst (λ (e : Engine _). c.is_active_in_columns.result ≡ is_active e.state c.args.u) c.self.view_is
    c.is_active_in_columns.ensures
