use Rattle.std.proofs.Common.{◌≡◌, is_some, true, sym, ap, ◌∙◌}
use Rattle.kin_store.specs.Lists.{user_place}
use Rattle.kin_store.proofs.Placing.{with_member-there}
use Rattle.kin_store.proofs.lists.is_member.Goals as goal

pub returns : goal.returns
returns c = λ so.
    let some : is_some (user_place c.args.users.now c.args.user) ≡ true = ap is_some (sym c.requires) ∙ (sym c.is_some.ensures ∙ so) in
    sym (with_member-there c.args.user c.args.users.now some)
