use Rattle.std.proofs.Common.{◌∙◌, ◌||◌, ap, arith, subst, List, Bool}
use Rattle.kin_pull.specs.Passes.{is_shown, marked, was_read, IsAbove}
use Rattle.kin_pull.proofs.Marks.{passes}
use Rattle.kin_pull.proofs.Rows.{ok-more, on-more}
use Rattle.kin_pull.proofs.passes.pass.Goals as goal

pub returns-clause-passed : goal.returns-clause-passed
returns-clause-passed g c =
    let r = g.R.PullRule.seen c.args.rule.now in
    let v = g.V.View.seen c.args.view.now in
    let us = c.args.users.now in
    let k = c.args.kept.now in
    ok-more _ _ c.all_above.result
    (λ above up. passes r v us k c.args.layer c.args.drawn.now c.tell_all.new.marks.items above.items c.in_ok-tell_all.ensures.long
    (λ x. c.in_ok-tell_all.ensures.marks x ∙ ap (λ b. b || is_shown r v us k c.args.layer c.args.drawn.now us x)
    (c.in_ok-marks.ensures.marks x))
    (subst (λ (ms : List Bool). IsAbove r v us k c.args.layer c.args.drawn.now ms above.items) c.as_slice-2.ensures.value up))
    c.all_above.ensures.above

pub returns-clause-computed : goal.returns-clause-computed
returns-clause-computed g c =
    let r = g.R.PullRule.seen c.args.rule.now in
    let v = g.V.View.seen c.args.view.now in
    let us = c.args.users.now in
    let k = c.args.kept.now in
    on-more _ _ c.all_above.result
    (λ done x there. done x there
    ∙ ap (λ (b : Bool). was_read us c.args.ins.now x || b) (ap (λ (ms : List Bool). marked us ms x) c.as_slice-2.ensures.value
    ∙ (c.in_ok-tell_all.ensures.marks x ∙ ap (λ (b : Bool). b || is_shown r v us k c.args.layer c.args.drawn.now us x)
    (c.in_ok-marks.ensures.marks x)))) c.all_above.ensures.computed

pub returns-clause-reads : goal.returns-clause-reads
returns-clause-reads g c = on-more _ _ c.all_above.result (λ read. omega (arith, read, c.in_ok-tell_all.ensures.reads)) c.all_above.ensures.reads
