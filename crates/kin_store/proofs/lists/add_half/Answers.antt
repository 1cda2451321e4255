use Rattle.std.proofs.Common.{◌≡◌, None, is_some, true, refl, ◌∙◌, rules}
use Rattle.std.proofs.lemmas.Result.{on_ok_weaker}
use Rattle.kin_store.specs.Turns.{turned}
use Rattle.kin_store.specs.Lists.{half_place}
use Rattle.kin_store.proofs.Placing.{with_half-there, with_half-new}
use Rattle.kin_store.proofs.lists.add_half.Goals as goal

pub returns-then-is_some-clause-ok : goal.returns-then-is_some-clause-ok
returns-then-is_some-clause-ok c =
    let some : is_some (half_place c.args.halves.now c.args.other) ≡ true = search rules in
    on_ok_weaker c.turn.result (λ (e : c.turn.new.halves ≡ turned c.args.other true c.args.halves.now). e
    ∙ with_half-there c.args.other c.args.added c.args.halves.now true some refl) c.turn.ensures.ok

pub returns-clause-ok : goal.returns-clause-ok
returns-clause-ok c =
    let none : half_place c.args.halves.now c.args.other ≡ None = search rules in
    c.in_ok-push.ensures.ok ∙ with_half-new c.args.other c.args.added c.args.halves.now none
