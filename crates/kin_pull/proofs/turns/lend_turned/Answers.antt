use Rattle.std.proofs.Common.{◌∙◌, ap, ap₂, get_or, ◌∷◌, []}
use Rattle.std.proofs.lemmas.List.{get_or_default}
use Rattle.kin_pull.proofs.Tells.{lend-step, lend-all}
use Rattle.kin_pull.specs.TurnSteps.{turned_input}
use Rattle.kin_pull.proofs.turns.lend_turned.Goals as goal

pub loop-end-preserved : goal.loop-end-preserved
loop-end-preserved g c = λ df.
    let e = get_or c.args.ends.now c.loop-end.end-index 0 in
    let facts = c.index-facts-end.is ∙ (ap (λ fs. get_or fs e c.index-facts-end.result) c.facts.ensures
    ∙ get_or_default c.args.kept.now.facts e _ df (c.requires c.loop-end.end-index 0 c.loop-end-test.true)) in
    lend-step (turned_input df c.args.first.now c.args.kept.now c.args.column.now c.args.i c.args.layer) c.args.ends.now
    c.loop-end.end-index e c.loop-end.inputs.items c.push.new.self.items _ c.loop-end-test.true
    (get_or_default c.args.ends.now c.loop-end.end-index 0 e c.loop-end-test.true) (ap₂
    (λ f v. record { facts = f; value = v } ∷ []) facts c.turned_value.ensures) c.in_ok-push.ensures.items (c.loop-end.invariant df)

pub returns : goal.returns
returns g c = λ df. lend-all
    (turned_input df c.args.first.now c.args.kept.now c.args.column.now c.args.i c.args.layer) c.args.ends.now c.loop-end.end-index
    c.loop-end.inputs.items c.loop-end-test.false (c.loop-end.invariant df)
