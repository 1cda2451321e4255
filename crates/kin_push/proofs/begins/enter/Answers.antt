use Rattle.kin_push.proofs.Starting.{entered}
use Rattle.kin_push.proofs.begins.enter.Goals as goal

pub land-requires : goal.land-requires
land-requires g c = record {
  state = record {
    ascend = c.requires.state.ascend;
    valued = c.requires.state.valued;
    marked =
        c.mark_starts.ensures.marked;
  };
}

pub returns-clause-state : goal.returns-clause-state
returns-clause-state g c = c.land.ensures.state

pub returns-clause-entered : goal.returns-clause-entered
returns-clause-entered g c =
    entered (g.R.PushRule.seen c.args.rule.now) c.args.starts.now c.args.users.now c.args.values.now c.land.new.values c.args.active.now
    c.mark_starts.new.active c.land.new.active c.landmark.result c.landmark.ensures c.requires.quiet
    c.mark_starts.ensures.active c.land.ensures.values c.land.ensures.active
