use Rattle.std.proofs.Common.{List, ap}
use Rattle.kin_ids.specs.declared.ids.User.{User}
use Rattle.kin_ids.specs.Users.{has_user}
use Rattle.kin_push.proofs.Starting.{started-both}
use Rattle.kin_push.proofs.begins.starts.Goals as goal

pub returns : goal.returns
returns g c u =
    started-both (g.R.PushRule.seen c.args.rule.now) c.args.deltas.now u _ _ _
    (ap (λ (us : List User). has_user us u) c.new-starts.ensures.items) (c.in_ok-add_kind.ensures u) (c.in_ok-add_kind-2.ensures u)
