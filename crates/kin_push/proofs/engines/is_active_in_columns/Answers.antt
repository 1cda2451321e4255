use Rattle.std.proofs.Common.{◌≡◌, List, subst}
use Rattle.kin_ids.specs.declared.ids.User.{User}
use Rattle.kin_push.specs.States.{is_active, state}
use Rattle.kin_push.proofs.engines.is_active_in_columns.Goals as goal

pub returns : goal.returns
returns c = subst (λ (us : List User). c.is_active.result ≡ is_active (state us c.args.columns.now.values.items c.args.columns.now.active)
    c.args.u) c.as_slice.ensures.value (c.is_active.ensures c.args.columns.now.values.items)
