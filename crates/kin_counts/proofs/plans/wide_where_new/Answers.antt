use Rattle.std.proofs.Common.{List, ◌∙◌, ap}
use Rattle.std.proofs.lemmas.Bool.{or_left}
use Rattle.kin_ids.specs.declared.ids.User.{User}
use Rattle.kin_ids.specs.Users.{has_user}
use Rattle.kin_counts.proofs.plans.wide_where_new.Goals as goal

pub wider-requires : goal.wider-requires
wider-requires c = record {
  ascend = rw c.in-Some.is at c.in_ok-users.ensures.ascend;
  all = λ u there. (rw c.in-Some.is at c.in_ok-users.ensures.all) u
      ∙ or_left _ _ (ap (λ (us : List User). has_user us u) c.users.ensures.users ∙ there);
}
