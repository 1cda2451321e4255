use Rattle.std.proofs.Common.{rules, ◌+◌, true, false, ◌∙◌}
use Rattle.kin_io.proofs.Growth.{flushed_more}
use Rattle.kin_replay.specs.Plays.{Scene}
use Rattle.kin_replay.proofs.Drains.{next-event, next-room, drains-more, drains-front, drains-all, left-less}
use Rattle.kin_replay.proofs.plays.play_drain.Goals as goal

pub play-requires-clause-event : goal.play-requires-clause-event
play-requires-clause-event g c = next-event c.loop-event.world c.loop-event.invariant.has c.in-Some.event c.in-Some.ensures.next

pub play-requires-clause-room : goal.play-requires-clause-room
play-requires-clause-room g c = next-room c.loop-event.world c.loop-event.invariant.has c.in-Some.event c.in-Some.ensures.next

pub loop-event-preserved : goal.loop-event-preserved
loop-event-preserved g c =
    let old : Scene = record { world = c.args.world.now; taken = g.O.Sink.taken c.args.out.now } in
    let now : Scene = record { world = c.loop-event.world; taken = g.O.Sink.taken c.loop-event.out } in
    let new : Scene = record { world = c.play.new.world; taken = g.O.Sink.taken c.play.new.out } in
    let i = c.loop-event.invariant in
    record {
      setting = c.in_ok-play.ensures.setting ∙ i.setting;
      has = c.in_ok-play.ensures.has;
      drains = drains-more c.args.printing.now.options c.args.printing.now.trace old now new c.in-Some.event c.in-Some.ensures.drain c.in_ok-play.ensures.ok i.drains;
      flushed = let a = i.flushed in let b = c.in_ok-play.ensures.flushed in
          (a.0 + b.0, flushed_more a.0 b.0 (g.O.Sink.flushed c.args.out.now) (g.O.Sink.flushed c.loop-event.out) (g.O.Sink.flushed c.play.new.out) a.1 b.1);
      calm = c.in_ok-play.ensures.calm (search rules) ∙ i.calm;
    }

pub loop-event-smaller : goal.loop-event-smaller
loop-event-smaller g c =
    let old : Scene = record { world = c.args.world.now; taken = g.O.Sink.taken c.args.out.now } in
    let now : Scene = record { world = c.loop-event.world; taken = g.O.Sink.taken c.loop-event.out } in
    let new : Scene = record { world = c.play.new.world; taken = g.O.Sink.taken c.play.new.out } in
    let has = c.loop-event.invariant.has in
    left-less c.args.printing.now.options c.args.printing.now.trace old now new c.in-Some.event c.in-Some.ensures.drain has (next-event c.loop-event.world has c.in-Some.event c.in-Some.ensures.next) c.in_ok-play.ensures.ok

pub returns-in_err-play-clause-write : goal.returns-in_err-play-clause-write
returns-in_err-play-clause-write g c is =
    let old : Scene = record { world = c.args.world.now; taken = g.O.Sink.taken c.args.out.now } in
    let now : Scene = record { world = c.loop-event.world; taken = g.O.Sink.taken c.loop-event.out } in
    let new : Scene = record { world = c.play.new.world; taken = g.O.Sink.taken c.play.new.out } in
    drains-front c.args.printing.now.options c.args.printing.now.trace old now new c.in-Some.event c.in-Some.ensures.drain false (c.in_err-play.ensures.write (search rules)) c.loop-event.invariant.drains

pub returns-in_err-play-clause-memory : goal.returns-in_err-play-clause-memory
returns-in_err-play-clause-memory g c is =
    let old : Scene = record { world = c.args.world.now; taken = g.O.Sink.taken c.args.out.now } in
    let now : Scene = record { world = c.loop-event.world; taken = g.O.Sink.taken c.loop-event.out } in
    let new : Scene = record { world = c.play.new.world; taken = g.O.Sink.taken c.play.new.out } in
    drains-front c.args.printing.now.options c.args.printing.now.trace old now new c.in-Some.event c.in-Some.ensures.drain true (c.in_err-play.ensures.memory (search rules)) c.loop-event.invariant.drains

pub returns-clause-ok : goal.returns-clause-ok
returns-clause-ok g c =
    let old : Scene = record { world = c.args.world.now; taken = g.O.Sink.taken c.args.out.now } in
    let now : Scene = record { world = c.loop-event.world; taken = g.O.Sink.taken c.loop-event.out } in
    drains-all c.args.printing.now.options c.args.printing.now.trace old now c.drain_next.result c.in_default.not-Some c.drain_next.ensures.drain c.loop-event.invariant.drains
