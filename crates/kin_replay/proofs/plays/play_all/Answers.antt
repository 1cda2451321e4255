use Rattle.std.proofs.Common.{rules, ◌+◌, ℕ, true, false, List, Option, sym, subst}
use Rattle.kin_io.proofs.Growth.{flush_after, flushed_more}
use Rattle.kin_replay.specs.Plays.{Scene, PlaysWhole, PlaysWholeFront}
use Rattle.kin_replay.proofs.Wholes.{whole-played, whole-lines, whole-drain, whole-front}
use Rattle.kin_replay.proofs.plays.play_all.Goals as goal

pub returns-in_err-play_lines-clause-write : goal.returns-in_err-play_lines-clause-write
returns-in_err-play_lines-clause-write g c is =
    let old : Scene = record { world = c.args.world.now; taken = g.O.Sink.taken c.args.out.now } in
    let now : Scene = record { world = c.play_lines.new.world; taken = g.O.Sink.taken c.play_lines.new.out } in
    whole-lines c.args.printing.now.options c.args.printing.now.trace c.args.lines.now old now now false (c.in_err-play_lines.ensures.write (search rules))

pub returns-in_err-play_drain-clause-write : goal.returns-in_err-play_drain-clause-write
returns-in_err-play_drain-clause-write g c is =
    let old : Scene = record { world = c.args.world.now; taken = g.O.Sink.taken c.args.out.now } in
    let now : Scene = record { world = c.play_lines.new.world; taken = g.O.Sink.taken c.play_lines.new.out } in
    let end : Scene = record { world = c.play_drain.new.world; taken = g.O.Sink.taken c.play_drain.new.out } in
    whole-drain c.args.printing.now.options c.args.printing.now.trace c.args.lines.now old now end false c.in_ok-play_lines.ensures.ok (c.in_err-play_drain.ensures.write (search rules))

pub returns-in_err-play_lines-clause-memory : goal.returns-in_err-play_lines-clause-memory
returns-in_err-play_lines-clause-memory g c is =
    let old : Scene = record { world = c.args.world.now; taken = g.O.Sink.taken c.args.out.now } in
    let now : Scene = record { world = c.play_lines.new.world; taken = g.O.Sink.taken c.play_lines.new.out } in
    whole-lines c.args.printing.now.options c.args.printing.now.trace c.args.lines.now old now now true (c.in_err-play_lines.ensures.memory (search rules))

pub returns-in_err-play_drain-clause-memory : goal.returns-in_err-play_drain-clause-memory
returns-in_err-play_drain-clause-memory g c is =
    let old : Scene = record { world = c.args.world.now; taken = g.O.Sink.taken c.args.out.now } in
    let now : Scene = record { world = c.play_lines.new.world; taken = g.O.Sink.taken c.play_lines.new.out } in
    let end : Scene = record { world = c.play_drain.new.world; taken = g.O.Sink.taken c.play_drain.new.out } in
    whole-drain c.args.printing.now.options c.args.printing.now.trace c.args.lines.now old now end true c.in_ok-play_lines.ensures.ok (c.in_err-play_drain.ensures.memory (search rules))

pub returns-in_err-flush-clause-write : goal.returns-in_err-flush-clause-write
returns-in_err-flush-clause-write g c is =
    let old : Scene = record { world = c.args.world.now; taken = g.O.Sink.taken c.args.out.now } in
    let now : Scene = record { world = c.play_lines.new.world; taken = g.O.Sink.taken c.play_lines.new.out } in
    let end : Scene = record { world = c.play_drain.new.world; taken = g.O.Sink.taken c.play_drain.new.out } in
    subst (λ (taken : Option (List ℕ)). PlaysWholeFront false c.args.printing.now.options c.args.printing.now.trace c.args.lines.now old (record { world = c.play_drain.new.world; taken = taken })) (sym c.in_err-flush.ensures.taken)
    (whole-front c.args.printing.now.options c.args.printing.now.trace c.args.lines.now old now end false (whole-played c.args.printing.now.options c.args.printing.now.trace c.args.lines.now old now end c.in_ok-play_lines.ensures.ok c.in_ok-play_drain.ensures.ok))

pub returns-clause-ok : goal.returns-clause-ok
returns-clause-ok g c =
    let old : Scene = record { world = c.args.world.now; taken = g.O.Sink.taken c.args.out.now } in
    let now : Scene = record { world = c.play_lines.new.world; taken = g.O.Sink.taken c.play_lines.new.out } in
    let end : Scene = record { world = c.play_drain.new.world; taken = g.O.Sink.taken c.play_drain.new.out } in
    subst (λ (taken : Option (List ℕ)). PlaysWhole c.args.printing.now.options c.args.printing.now.trace c.args.lines.now old (record { world = c.play_drain.new.world; taken = taken })) (sym c.in_ok-flush.ensures.taken)
    (whole-played c.args.printing.now.options c.args.printing.now.trace c.args.lines.now old now end c.in_ok-play_lines.ensures.ok c.in_ok-play_drain.ensures.ok)

pub returns-clause-flushed : goal.returns-clause-flushed
returns-clause-flushed g c =
    let a = c.in_ok-play_lines.ensures.flushed in
    let b = c.in_ok-play_drain.ensures.flushed in
    let was = g.O.Sink.flushed c.args.out.now in
    let written = g.O.Sink.flushed c.play_drain.new.out in
    flush_after (a.0 + b.0) was written (g.O.Sink.flushed c.flush.new.self) (flushed_more a.0 b.0 was (g.O.Sink.flushed c.play_lines.new.out) written a.1 b.1) c.in_ok-flush.ensures.ok
