use Rattle.std.proofs.Common.{◌≡◌, ℕ, List, Option}
use Rattle.kin_ids.specs.declared.ids.User.{User}
use Rattle.kin_push.specs.States.{state, value_in}
use Rattle.kin_push.proofs.EngineParts.{over}
use Rattle.kin_push.proofs.engines.value_in_columns.Goals as goal

pub returns : goal.returns
returns c =
    over (λ (us : List User) (vs : List (Option ℕ)). c.value_of.result ≡ value_in (state us vs c.args.columns.now.active) c.args.u)
    c.as_slice.result.now c.args.columns.now.users.items c.as_slice-2.result.now c.args.columns.now.values.items
    c.as_slice.ensures.value c.as_slice-2.ensures.value
    (c.value_of.ensures c.args.columns.now.active)
