use Rattle.std.proofs.Common.{◌≡◌, ◌<◌, ◌+◌, ◌∙◌, ◌||◌, ℕ, Bool, false, List, [], get_or, length, arith, refl, sym, ap, subst}
use Rattle.kin_ids.specs.declared.ids.User.{User}
use Rattle.kin_push.specs.States.{state}
use Rattle.kin_rules.specs.Columns.{column_of, columns_of}
use Rattle.kin_rules.specs.Places.{place}
use Rattle.kin_mine.specs.Lanes.{IsTurned, KeepsOn, lanes, marked_in, no_user}
use Rattle.kin_mine.specs.Marks.{rule_of}
use Rattle.std.proofs.lemmas.Bool.{or_parts}
use Rattle.kin_mine.proofs.Steps.{all-on, at-end, done-next, marked-all, marked-more, next-active, next-on, owed-next, same-columns, same-marks, weaker}
use Rattle.kin_mine.proofs.lanes.turn_slices.Goals as goal

pub turn_lane-one-requires-clause-state : goal.turn_lane-one-requires-clause-state
turn_lane-one-requires-clause-state g c = (next-on c.args.distance (g.V.View.seen c.args.view.now) (KeepsOn c.args.distance (g.V.View.seen c.args.view.now) (λ who. IsTurned (rule_of c.args.distance who) (g.V.View.seen c.args.view.now) c.args.u)) c.loop-i.i c.args.landmarks.now c.args.users.now (columns_of c.args.columns.now) c.args.marks.now c.loop-i.columns c.loop-i.marks
    c.loop-i.invariant.done c.requires.on c.loop-i-test.true c.index-columns-i.result c.index-marks-i.result).0

pub turn_lane-one-requires-clause-on : goal.turn_lane-one-requires-clause-on
turn_lane-one-requires-clause-on g c = (next-on c.args.distance (g.V.View.seen c.args.view.now) (KeepsOn c.args.distance (g.V.View.seen c.args.view.now) (λ who. IsTurned (rule_of c.args.distance who) (g.V.View.seen c.args.view.now) c.args.u)) c.loop-i.i c.args.landmarks.now c.args.users.now (columns_of c.args.columns.now) c.args.marks.now c.loop-i.columns c.loop-i.marks
    c.loop-i.invariant.done c.requires.on c.loop-i-test.true c.index-columns-i.result c.index-marks-i.result).1

pub loop-i-preserved : goal.loop-i-preserved
loop-i-preserved g c =
    let keeps = (KeepsOn c.args.distance (g.V.View.seen c.args.view.now) (λ who. IsTurned (rule_of c.args.distance who) (g.V.View.seen c.args.view.now) c.args.u)) in
    let old = lanes (columns_of c.args.columns.now) c.args.marks.now in
    let are = c.requires.on.are in
    let done = c.loop-i.invariant.done in
    let i = c.loop-i.i in
    let lt = c.loop-i-test.true in
    let dc = c.index-columns-i.result in
    let dm = c.index-marks-i.result in
    let one = c.turn_lane-one.ensures in
    record {
      done = done-next keeps i c.args.landmarks.now c.args.users.now old c.loop-i.columns c.loop-i.marks done are.columns_are are.marks_are lt c.turn_lane-one.new.column c.turn_lane-one.new.marks dc dm one.others (one.state, one.on, one.turned);
      marked = c.either-turned.ensures ∙ ap (λ (b : Bool). b || c.turn_lane-one.result) c.loop-i.invariant.marked
          ∙ (ap (λ (b : Bool). marked_in c.args.users.now c.args.marks.now c.args.u i || b) (one.active
          ∙ next-active keeps i c.args.landmarks.now c.args.users.now (columns_of c.args.columns.now) c.args.marks.now c.loop-i.columns c.loop-i.marks done are lt dc dm c.args.u)
          ∙ sym (marked-more c.args.users.now c.args.marks.now c.args.u i));
      idle = λ off.
          let both = or_parts (marked_in c.args.users.now c.args.marks.now c.args.u i) (get_or (get_or c.args.marks.now i []) (place c.args.users.now c.args.u) false) (sym (marked-more c.args.users.now c.args.marks.now c.args.u i) ∙ off) in
          let before = c.loop-i.invariant.idle both.0 in
          let now = one.idle (next-active keeps i c.args.landmarks.now c.args.users.now (columns_of c.args.columns.now) c.args.marks.now c.loop-i.columns c.loop-i.marks done are lt dc dm c.args.u ∙ both.1) in
          (same-columns c.loop-i.columns i c.turn_lane-one.new.column dc now.0 ∙ before.0, same-marks c.loop-i.marks i c.turn_lane-one.new.marks dm now.1 ∙ before.1, now.2 ∙ before.2);
      reads = owed-next keeps i c.args.landmarks.now c.args.users.now old c.loop-i.columns c.loop-i.marks done are.columns_are are.marks_are lt c.turn_lane-one.new.column c.turn_lane-one.new.marks dc dm one.others (one.state, one.on, one.turned)
          c.args.distance (g.V.View.seen c.args.view.now) c.args.steps.now c.loop-i.steps c.turn_lane-one.new.steps c.loop-i.invariant.reads one.reads;
    }

pub returns-clause-on : goal.returns-clause-on
returns-clause-on g c =
    let e : c.loop-i.i ≡ length c.args.landmarks.now = omega (arith, c.loop-i-test.false, c.loop-i.auto.i-end) in
    all-on c.args.distance (g.V.View.seen c.args.view.now) (λ who. IsTurned (rule_of c.args.distance who) (g.V.View.seen c.args.view.now) c.args.u) c.args.landmarks.now c.args.users.now (columns_of c.args.columns.now) (columns_of c.loop-i.columns) c.args.marks.now c.loop-i.marks c.requires.on.are
    (at-end (KeepsOn c.args.distance (g.V.View.seen c.args.view.now) (λ who. IsTurned (rule_of c.args.distance who) (g.V.View.seen c.args.view.now) c.args.u)) c.loop-i.i c.args.landmarks.now c.args.users.now (lanes (columns_of c.args.columns.now) c.args.marks.now) (lanes (columns_of c.loop-i.columns) c.loop-i.marks) e c.loop-i.invariant.done)

pub returns-clause-each : goal.returns-clause-each
returns-clause-each g c =
    let e : c.loop-i.i ≡ length c.args.landmarks.now = omega (arith, c.loop-i-test.false, c.loop-i.auto.i-end) in
    weaker (KeepsOn c.args.distance (g.V.View.seen c.args.view.now) (λ who. IsTurned (rule_of c.args.distance who) (g.V.View.seen c.args.view.now) c.args.u)) (λ who. IsTurned (rule_of c.args.distance who) (g.V.View.seen c.args.view.now) c.args.u) (length c.args.landmarks.now) c.args.landmarks.now c.args.users.now (lanes (columns_of c.args.columns.now) c.args.marks.now) (lanes (columns_of c.loop-i.columns) c.loop-i.marks) (λ l a b p. p.2)
    (at-end (KeepsOn c.args.distance (g.V.View.seen c.args.view.now) (λ who. IsTurned (rule_of c.args.distance who) (g.V.View.seen c.args.view.now) c.args.u)) c.loop-i.i c.args.landmarks.now c.args.users.now (lanes (columns_of c.args.columns.now) c.args.marks.now) (lanes (columns_of c.loop-i.columns) c.loop-i.marks) e c.loop-i.invariant.done)

pub returns-clause-active : goal.returns-clause-active
returns-clause-active g c =
    let e : c.loop-i.i ≡ length c.args.marks.now = omega (arith, c.loop-i-test.false, c.loop-i.auto.i-end, c.requires.on.are.marks_are) in
    c.loop-i.invariant.marked ∙ (ap (marked_in c.args.users.now c.args.marks.now c.args.u) e ∙ marked-all c.args.users.now c.args.marks.now c.args.u)

pub returns-clause-idle : goal.returns-clause-idle
returns-clause-idle g c off =
    let e : c.loop-i.i ≡ length c.args.marks.now = omega (arith, c.loop-i-test.false, c.loop-i.auto.i-end, c.requires.on.are.marks_are) in
    c.loop-i.invariant.idle (ap (marked_in c.args.users.now c.args.marks.now c.args.u) e ∙ (marked-all c.args.users.now c.args.marks.now c.args.u ∙ off))
