use Rattle.std.proofs.Common.{◌≡◌, ◌<◌, length, arith}
use Rattle.kin_ids.specs.declared.ids.User.{User}
use Rattle.kin_push.specs.Begins.{IsEntered}
use Rattle.kin_push.specs.States.{IsPushState, PushState}
use Rattle.kin_rules.specs.Columns.{columns_of}
use Rattle.kin_mine.specs.Lanes.{lanes}
use Rattle.kin_mine.specs.Marks.{rule_of}
use Rattle.kin_mine.proofs.Steps.{all-states, at-end, done-next}
use Rattle.kin_mine.proofs.lanes.enter_slices.Goals as goal

pub loop-i-preserved : goal.loop-i-preserved
loop-i-preserved c =
    let are = c.requires.states in
    let one = c.enter_lane.ensures in
    done-next (λ who old new. IsPushState new × IsEntered (rule_of c.args.distance who) c.args.starts.now old new) c.loop-i.i c.args.landmarks.now c.args.users.now (lanes (columns_of c.args.columns.now) c.args.marks.now) c.loop-i.columns c.loop-i.marks
    c.loop-i.invariant are.columns_are are.marks_are c.loop-i-test.true c.enter_lane.new.column c.enter_lane.new.marks c.index-columns-i.result c.index-marks-i.result one.others (one.state, one.entered)

pub returns-clause-states : goal.returns-clause-states
returns-clause-states c =
    let e : c.loop-i.i ≡ length c.args.landmarks.now = omega (arith, c.loop-i-test.false, c.loop-i.auto.i-end) in
    all-states (λ who old new. IsPushState new × IsEntered (rule_of c.args.distance who) c.args.starts.now old new) c.args.landmarks.now c.args.users.now (columns_of c.args.columns.now) (columns_of c.loop-i.columns) c.args.marks.now c.loop-i.marks (λ l a b p. p.0) c.requires.states
    (at-end (λ who old new. IsPushState new × IsEntered (rule_of c.args.distance who) c.args.starts.now old new) c.loop-i.i c.args.landmarks.now c.args.users.now (lanes (columns_of c.args.columns.now) c.args.marks.now) (lanes (columns_of c.loop-i.columns) c.loop-i.marks) e c.loop-i.invariant)
