use Rattle.std.proofs.Common.{◌≡◌, true, List, map, subst}
use Rattle.kin_ids.specs.declared.ids.User.{User}
use Rattle.kin_ids.specs.declared.ops.Half.{Half}
use Rattle.kin_ids.specs.Users.{has_user}
use Rattle.kin_store.specs.Lists.{half_key}
use Rattle.kin_push.proofs.ClosedViews.{on-true}
use Rattle.kin_push.proofs.settle_tests.is_closed_at.Goals as goal

pub returns : goal.returns
returns g c =
    on-true c.have_all.result
    (λ all. record {
      follows = subst (λ (hs : List Half). (x : User) → has_user (map half_key hs) x ≡ true → has_user c.args.users.now x ≡ true)
          c.out.ensures.halves c.if-not-have_ends.ensures;
      mentions = subst (λ (us : List User). (x : User) → has_user us x ≡ true → has_user c.args.users.now x ≡ true)
          c.mentions.ensures.users all;
    }) c.have_all.ensures
