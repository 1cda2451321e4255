use Rattle.std.proofs.Common.{◌∙◌, ◌+◌, ◌&&◌, ◌||◌, ◌==◌, ℕ, Bool, false, ap, arith, sym, refl, length, get_or}
use Rattle.std.proofs.lemmas.List.{length_push, get_or_default}
use Rattle.kin_rules.proofs.PlacedValues.{place-at}
use Rattle.kin_rules.specs.Places.{place}
use Rattle.kin_pull.specs.Passes.{above_in, marked, was_read}
use Rattle.kin_pull.proofs.Marks.{above-step, above-whole}
use Rattle.kin_pull.proofs.WasRead.{told-end, told-step}
use Rattle.kin_pull.proofs.passes.all_above.Goals as goal

pub above_if-requires-clause-at : goal.above_if-requires-clause-at
above_if-requires-clause-at g c = place-at c.args.users.now c.loop-i.i _ c.requires.kept.ascend c.loop-i-test.true

pub loop-i-preserved : goal.loop-i-preserved
loop-i-preserved g c =
    let r = g.R.PullRule.seen c.args.rule.now in
    let v = g.V.View.seen c.args.view.now in
    let us = c.args.users.now in
    let u = get_or us c.loop-i.i (record { 0 = 0 }) in
    record {
      ins = c.in_ok-above_if.ensures.ins;
      long = ap (λ vs. length vs) c.in_ok-push.ensures.items ∙ (length_push c.loop-i.values.items c.in_ok-above_if.field-0
          ∙ ap (λ n. n + 1) c.loop-i.invariant.long);
      each = above-step (above_in r v us c.args.kept.now c.args.layer c.args.drawn.now) c.args.marks.now us c.loop-i.i
          c.loop-i.values.items c.push.new.self.items c.in_ok-above_if.field-0 u _
          c.loop-i.invariant.long c.loop-i-test.true
          (get_or_default us c.loop-i.i _ u c.loop-i-test.true) refl c.in_ok-above_if.ensures.value c.in_ok-push.ensures.items
          c.loop-i.invariant.each;
      computed = λ x there. told-step (λ y. marked us c.args.marks.now y) us c.loop-i.i u x
          (was_read us c.args.ins.now x) (was_read us c.loop-i.ins x) (was_read us c.above_if.new.ins x) c.loop-i-test.true
          (get_or_default us c.loop-i.i _ u c.loop-i-test.true) there
          (c.in_ok-above_if.ensures.computed x there ∙ ap (λ (b : Bool). was_read us c.loop-i.ins x || (b && (place us x == c.loop-i.i)))
          (ap (λ (n : ℕ). get_or c.args.marks.now n false) (sym (place-at us c.loop-i.i _ c.requires.kept.ascend c.loop-i-test.true))))
          (c.loop-i.invariant.computed x there);
      reads = omega (arith, c.in_ok-above_if.ensures.reads, c.loop-i.invariant.reads);
    }

pub returns-clause-computed : goal.returns-clause-computed
returns-clause-computed g c = λ x there. told-end c.args.users.now c.loop-i.i x (was_read c.args.users.now c.args.ins.now x)
    (was_read c.args.users.now c.loop-i.ins x) _ c.loop-i-test.false there (c.loop-i.invariant.computed x there)

pub returns-clause-above : goal.returns-clause-above
returns-clause-above g c = above-whole (g.R.PullRule.seen c.args.rule.now)
    (g.V.View.seen c.args.view.now) c.args.users.now c.args.kept.now c.args.layer c.args.drawn.now c.args.marks.now c.loop-i.values.items
    c.loop-i.i
    c.loop-i.invariant.long c.loop-i-test.false c.loop-i.auto.i-end c.loop-i.invariant.each
