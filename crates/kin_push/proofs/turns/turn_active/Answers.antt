use Rattle.std.proofs.Common.{false, refl, arith}
use Rattle.kin_push.specs.States.{reads_of}
use Rattle.kin_push.proofs.States.{with-mark}
use Rattle.kin_push.proofs.TurnParts.{turn-done}
use Rattle.kin_push.proofs.turns.turn_active.Goals as goal

pub place_of-requires-clause-there : goal.place_of-requires-clause-there
place_of-requires-clause-there g c = c.requires.on.within c.args.u c.requires.active

pub returns-clause-state : goal.returns-clause-state
returns-clause-state g c = with-mark c.args.users.now c.push.new.values c.push.new.active c.unmark.new.self c.place_of.result false
    c.unmark.ensures c.push.ensures.state

pub returns-clause-on : goal.returns-clause-on
returns-clause-on g c = (turn-done (g.R.PushRule.seen c.args.rule.now) (g.V.View.seen c.args.view.now) c.args.u c.args.users.now
    c.args.values.now c.push.new.values c.args.active.now c.push.new.active c.unmark.new.self c.place_of.result c.place_of.ensures.place
    c.unmark.ensures c.push.ensures.state (c.requires.on.within c.args.u c.requires.active) c.push.ensures.turning c.push.ensures.rested).on

pub returns-clause-moved : goal.returns-clause-moved
returns-clause-moved g c = record {
  users = refl;
  moved = (turn-done (g.R.PushRule.seen c.args.rule.now) (g.V.View.seen c.args.view.now) c.args.u c.args.users.now c.args.values.now
      c.push.new.values c.args.active.now c.push.new.active c.unmark.new.self c.place_of.result c.place_of.ensures.place c.unmark.ensures
      c.push.ensures.state (c.requires.on.within c.args.u c.requires.active) c.push.ensures.turning c.push.ensures.rested).moved;
}

pub returns-clause-rested : goal.returns-clause-rested
returns-clause-rested g c = c.push.ensures.rested

pub returns-clause-reads : goal.returns-clause-reads
returns-clause-reads g c =
    let d = turn-done (g.R.PushRule.seen c.args.rule.now) (g.V.View.seen c.args.view.now) c.args.u c.args.users.now c.args.values.now
    c.push.new.values c.args.active.now c.push.new.active c.unmark.new.self c.place_of.result c.place_of.ensures.place c.unmark.ensures
    c.push.ensures.state (c.requires.on.within c.args.u c.requires.active) c.push.ensures.turning c.push.ensures.rested in
    omega (arith, c.push.ensures.reads, d.paid (reads_of (g.R.PushRule.seen c.args.rule.now) (g.V.View.seen c.args.view.now)))

pub returns-clause-nearer : goal.returns-clause-nearer
returns-clause-nearer g c =
    let d = turn-done (g.R.PushRule.seen c.args.rule.now) (g.V.View.seen c.args.view.now) c.args.u c.args.users.now c.args.values.now
    c.push.new.values c.args.active.now c.push.new.active c.unmark.new.self c.place_of.result c.place_of.ensures.place c.unmark.ensures
    c.push.ensures.state (c.requires.on.within c.args.u c.requires.active) c.push.ensures.turning c.push.ensures.rested in
    omega (arith, d.paid (λ _. 1))
