use Rattle.std.proofs.Common.{◌≡◌, is_some, true, sym, ap, ◌∙◌}
use Rattle.kin_store.specs.Lists.{use_place}
use Rattle.kin_store.proofs.Placing.{with_first-there}
use Rattle.kin_store.proofs.lists.is_used.Goals as goal

pub returns : goal.returns
returns c = λ so first.
    let some : is_some (use_place c.args.uses.now c.args.tag) ≡ true = ap is_some (sym c.requires) ∙ (sym c.is_some.ensures ∙ so) in
    sym (with_first-there c.args.tag first c.args.uses.now some)
