use Rattle.std.proofs.Common.{◌≡◌, None, is_some, true, ◌∙◌, rules}
use Rattle.kin_store.specs.Lists.{user_place}
use Rattle.kin_store.proofs.Placing.{with_member-there, with_member-new}
use Rattle.kin_store.proofs.lists.put_user.Goals as goal

pub returns-in_ok-push-clause-ok : goal.returns-in_ok-push-clause-ok
returns-in_ok-push-clause-ok c =
    let none : user_place c.args.users.now c.args.user ≡ None = search rules in
    c.in_ok-push.ensures.ok ∙ with_member-new c.args.user c.args.users.now none

pub returns-else-is_none-clause-ok : goal.returns-else-is_none-clause-ok
returns-else-is_none-clause-ok c =
    let some : is_some (user_place c.args.users.now c.args.user) ≡ true = search rules in
    with_member-there c.args.user c.args.users.now some
