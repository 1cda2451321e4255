use Rattle.std.proofs.Common.{◌≡◌, None, is_some, true, ◌∙◌, rules}
use Rattle.kin_store.specs.Lists.{use_place}
use Rattle.kin_store.proofs.Placing.{with_first-there, with_first-new}
use Rattle.kin_store.proofs.lists.put_use.Goals as goal

pub returns-in_ok-push-clause-ok : goal.returns-in_ok-push-clause-ok
returns-in_ok-push-clause-ok c =
    let none : use_place c.args.uses.now c.args.tag ≡ None = search rules in
    c.in_ok-push.ensures.ok ∙ with_first-new c.args.tag c.args.first c.args.uses.now none

pub returns-else-is_none-clause-ok : goal.returns-else-is_none-clause-ok
returns-else-is_none-clause-ok c =
    let some : is_some (use_place c.args.uses.now c.args.tag) ≡ true = search rules in
    with_first-there c.args.tag c.args.first c.args.uses.now some
