use Rattle.std.proofs.Common.{refl, arith}
use Rattle.kin_push.specs.States.{state}
use Rattle.kin_push.proofs.TurnParts.{nobody, quiet-least, run-more, run-none}
use Rattle.kin_push.proofs.turns.settle.Goals as goal

pub loop-u-init : goal.loop-u-init
loop-u-init g c = record {
  state_is = c.requires.state;
  stands = c.requires.on;
  run = run-none (g.R.PushRule.seen c.args.rule.now) (g.V.View.seen c.args.view.now)
      (state c.args.users.now c.args.values.now c.args.active.now);
  paid = omega arith;
  stays = λ q. (refl, refl, refl);
}

pub turn_active-requires-clause-active : goal.turn_active-requires-clause-active
turn_active-requires-clause-active g c = c.in-Some.ensures.some c.loop-u.values

pub loop-u-smaller : goal.loop-u-smaller
loop-u-smaller g c = c.turn_active.ensures.nearer

pub loop-u-preserved : goal.loop-u-preserved
loop-u-preserved g c = record {
  state_is = c.turn_active.ensures.state;
  stands = c.turn_active.ensures.on;
  run = run-more (g.R.PushRule.seen c.args.rule.now) (g.V.View.seen c.args.view.now) c.in-Some.u
      (state c.args.users.now c.args.values.now c.args.active.now) (state c.args.users.now c.loop-u.values c.loop-u.active)
      (state c.args.users.now c.turn_active.new.values c.turn_active.new.active)
      c.loop-u.invariant.run (c.in-Some.ensures.some c.loop-u.values) c.turn_active.ensures.moved;
  paid = omega (arith, c.turn_active.ensures.reads, c.loop-u.invariant.paid);
  stays = λ q. nobody c.args.users.now c.loop-u.values c.args.values.now c.loop-u.active c.args.active.now c.in-Some.u
      (c.loop-u.invariant.stays q).0 (c.loop-u.invariant.stays q).1 q (c.in-Some.ensures.some c.loop-u.values);
}

pub returns-clause-quiet : goal.returns-clause-quiet
returns-clause-quiet g c = c.in_default.ensures.none refl c.loop-u.values

pub returns-clause-values : goal.returns-clause-values
returns-clause-values g c = quiet-least (g.R.PushRule.seen c.args.rule.now) (g.met.R.PushRule.laws c.args.rule.now)
    (g.V.View.seen c.args.view.now) (state c.args.users.now c.loop-u.values c.loop-u.active) c.loop-u.invariant.stands
    (c.in_default.ensures.none refl c.loop-u.values)
