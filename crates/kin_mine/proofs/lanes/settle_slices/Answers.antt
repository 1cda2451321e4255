use Rattle.std.proofs.Common.{◌≡◌, ◌<◌, ◌+◌, ◌∙◌, ◌||◌, ℕ, Bool, false, List, [], get_or, length, arith, refl, sym, ap, subst}
use Rattle.kin_ids.specs.declared.ids.User.{User}
use Rattle.kin_push.specs.States.{IsQuiet, state}
use Rattle.kin_rules.specs.Columns.{column_of, columns_of}
use Rattle.kin_rules.specs.Places.{place}
use Rattle.kin_mine.specs.Lanes.{IsSettled, KeepsOn, lanes, no_user}
use Rattle.kin_mine.specs.Marks.{rule_of}
use Rattle.kin_mine.proofs.Steps.{all-on, all-quiet, at-end, done-next, next-active, next-on, owed-next, same-columns, same-marks, weaker}
use Rattle.kin_mine.proofs.lanes.settle_slices.Goals as goal

pub settle_lane-requires-clause-state : goal.settle_lane-requires-clause-state
settle_lane-requires-clause-state g c = (next-on c.args.distance (g.V.View.seen c.args.view.now) (KeepsOn c.args.distance (g.V.View.seen c.args.view.now) (λ who. IsSettled (rule_of c.args.distance who) (g.V.View.seen c.args.view.now))) c.loop-i.i c.args.landmarks.now c.args.users.now (columns_of c.args.columns.now) c.args.marks.now c.loop-i.columns c.loop-i.marks
    c.loop-i.invariant.done c.requires.on c.loop-i-test.true c.index-columns-i.result c.index-marks-i.result).0

pub settle_lane-requires-clause-on : goal.settle_lane-requires-clause-on
settle_lane-requires-clause-on g c = (next-on c.args.distance (g.V.View.seen c.args.view.now) (KeepsOn c.args.distance (g.V.View.seen c.args.view.now) (λ who. IsSettled (rule_of c.args.distance who) (g.V.View.seen c.args.view.now))) c.loop-i.i c.args.landmarks.now c.args.users.now (columns_of c.args.columns.now) c.args.marks.now c.loop-i.columns c.loop-i.marks
    c.loop-i.invariant.done c.requires.on c.loop-i-test.true c.index-columns-i.result c.index-marks-i.result).1

pub loop-i-preserved : goal.loop-i-preserved
loop-i-preserved g c =
    let keeps = (KeepsOn c.args.distance (g.V.View.seen c.args.view.now) (λ who. IsSettled (rule_of c.args.distance who) (g.V.View.seen c.args.view.now))) in
    let old = lanes (columns_of c.args.columns.now) c.args.marks.now in
    let are = c.requires.on.are in
    let done = c.loop-i.invariant.done in
    let i = c.loop-i.i in
    let lt = c.loop-i-test.true in
    let dc = c.index-columns-i.result in
    let dm = c.index-marks-i.result in
    let one = c.settle_lane.ensures in
    record {
      done = done-next keeps i c.args.landmarks.now c.args.users.now old c.loop-i.columns c.loop-i.marks done are.columns_are are.marks_are lt c.settle_lane.new.column c.settle_lane.new.marks dc dm one.others (one.state, one.on, one.settled);
      idle = λ none.
          let before = c.loop-i.invariant.idle none in
          let now = one.idle (λ u. next-active keeps i c.args.landmarks.now c.args.users.now (columns_of c.args.columns.now) c.args.marks.now c.loop-i.columns c.loop-i.marks done are lt dc dm u ∙ none i (place c.args.users.now u)) in
          (same-columns c.loop-i.columns i c.settle_lane.new.column dc now.0 ∙ before.0, same-marks c.loop-i.marks i c.settle_lane.new.marks dm now.1 ∙ before.1, now.2 ∙ before.2);
      reads = owed-next keeps i c.args.landmarks.now c.args.users.now old c.loop-i.columns c.loop-i.marks done are.columns_are are.marks_are lt c.settle_lane.new.column c.settle_lane.new.marks dc dm one.others (one.state, one.on, one.settled)
          c.args.distance (g.V.View.seen c.args.view.now) c.args.steps.now c.loop-i.steps c.settle_lane.new.steps c.loop-i.invariant.reads one.reads;
    }

pub returns-clause-on : goal.returns-clause-on
returns-clause-on g c =
    let e : c.loop-i.i ≡ length c.args.landmarks.now = omega (arith, c.loop-i-test.false, c.loop-i.auto.i-end) in
    all-on c.args.distance (g.V.View.seen c.args.view.now) (λ who. IsSettled (rule_of c.args.distance who) (g.V.View.seen c.args.view.now)) c.args.landmarks.now c.args.users.now (columns_of c.args.columns.now) (columns_of c.loop-i.columns) c.args.marks.now c.loop-i.marks c.requires.on.are
    (at-end (KeepsOn c.args.distance (g.V.View.seen c.args.view.now) (λ who. IsSettled (rule_of c.args.distance who) (g.V.View.seen c.args.view.now))) c.loop-i.i c.args.landmarks.now c.args.users.now (lanes (columns_of c.args.columns.now) c.args.marks.now) (lanes (columns_of c.loop-i.columns) c.loop-i.marks) e c.loop-i.invariant.done)

pub returns-clause-each : goal.returns-clause-each
returns-clause-each g c =
    let e : c.loop-i.i ≡ length c.args.landmarks.now = omega (arith, c.loop-i-test.false, c.loop-i.auto.i-end) in
    weaker (KeepsOn c.args.distance (g.V.View.seen c.args.view.now) (λ who. IsSettled (rule_of c.args.distance who) (g.V.View.seen c.args.view.now))) (λ who. IsSettled (rule_of c.args.distance who) (g.V.View.seen c.args.view.now)) (length c.args.landmarks.now) c.args.landmarks.now c.args.users.now (lanes (columns_of c.args.columns.now) c.args.marks.now) (lanes (columns_of c.loop-i.columns) c.loop-i.marks) (λ l a b p. p.2)
    (at-end (KeepsOn c.args.distance (g.V.View.seen c.args.view.now) (λ who. IsSettled (rule_of c.args.distance who) (g.V.View.seen c.args.view.now))) c.loop-i.i c.args.landmarks.now c.args.users.now (lanes (columns_of c.args.columns.now) c.args.marks.now) (lanes (columns_of c.loop-i.columns) c.loop-i.marks) e c.loop-i.invariant.done)

pub returns-clause-quiet : goal.returns-clause-quiet
returns-clause-quiet g c =
    let e : c.loop-i.i ≡ length c.args.landmarks.now = omega (arith, c.loop-i-test.false, c.loop-i.auto.i-end) in
    all-quiet c.args.distance (g.V.View.seen c.args.view.now) (λ who. IsSettled (rule_of c.args.distance who) (g.V.View.seen c.args.view.now)) c.args.landmarks.now c.args.users.now (columns_of c.args.columns.now) (columns_of c.loop-i.columns) c.args.marks.now c.loop-i.marks (λ l a b p. p.quiet) c.requires.on.are
    (at-end (KeepsOn c.args.distance (g.V.View.seen c.args.view.now) (λ who. IsSettled (rule_of c.args.distance who) (g.V.View.seen c.args.view.now))) c.loop-i.i c.args.landmarks.now c.args.users.now (lanes (columns_of c.args.columns.now) c.args.marks.now) (lanes (columns_of c.loop-i.columns) c.loop-i.marks) e c.loop-i.invariant.done)
