use Rattle.kin_world.proofs.Running.{on_err}
use Rattle.kin_replay.specs.Drained.{DrainsInPart}
use Rattle.kin_replay.proofs.Drains.{next-event, next-room}
use Rattle.kin_replay.proofs.Playing.{keeps-history}
use Rattle.kin_replay.proofs.WorldDrains.{goes-more, goes-less, goes-starved, goes-all}
use Rattle.kin_replay.proofs.generated.drain.Goals as goal

pub step-requires-clause-event : goal.step-requires-clause-event
step-requires-clause-event c = next-event c.loop-event.world c.loop-event.invariant.has c.in-Some.event c.in-Some.ensures.next

pub step-requires-clause-room : goal.step-requires-clause-room
step-requires-clause-room c = next-room c.loop-event.world c.loop-event.invariant.has c.in-Some.event c.in-Some.ensures.next

pub loop-event-preserved : goal.loop-event-preserved
loop-event-preserved c = record {
  has = keeps-history c.loop-event.world c.step.new.self c.in-Some.event c.in_ok-step.field-0 c.loop-event.invariant.has c.in_ok-step.ensures.keeps;
  goes = goes-more c.args.world.now c.loop-event.world c.step.new.self c.in-Some.event c.in-Some.ensures.drain c.in_ok-step.field-0 c.in_ok-step.ensures.keeps c.loop-event.invariant.goes;
}

pub loop-event-smaller : goal.loop-event-smaller
loop-event-smaller c = goes-less c.args.world.now c.loop-event.world c.step.new.self c.in-Some.event c.in-Some.ensures.drain c.in_ok-step.field-0 c.loop-event.invariant.has c.in_ok-step.ensures.keeps

pub returns-in_err-step-clause-err : goal.returns-in_err-step-clause-err
returns-in_err-step-clause-err c = on_err _ (DrainsInPart c.args.world.now c.step.new.self)
    (goes-starved c.args.world.now c.loop-event.world c.step.new.self c.in-Some.event c.in-Some.ensures.drain c.in_err-step.ensures.err c.loop-event.invariant.goes)

pub returns-clause-ok : goal.returns-clause-ok
returns-clause-ok c = goes-all c.args.world.now c.loop-event.world c.drain_next.result c.in_default.not-Some c.drain_next.ensures.drain c.loop-event.invariant.goes
