use Rattle.std.proofs.Common.{◌≡◌, subst}
use Rattle.kin_push.specs.Engines.{Engine}
use Rattle.kin_push.specs.States.{value_in}
use Rattle.kin_push.proofs.engines.PushEngine.value_of.Goals as goal

pub returns : goal.returns
returns g c = subst (λ (e : Engine _). c.value_in_columns.result ≡ value_in e.state c.args.u) c.self.view_is c.value_in_columns.ensures
