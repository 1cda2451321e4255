use Rattle.std.proofs.Common.{true, false, ◌∙◌}
use Rattle.kin_replay.proofs.Playing.{has-mined, keeps-history, plays-one, plays-part, plays-unwritten, plays-starved}
use Rattle.kin_replay.proofs.plays.play.Goals as goal

pub returns-in_err-outcome-clause-memory : goal.returns-in_err-outcome-clause-memory
returns-in_err-outcome-clause-memory g c _ =
    plays-starved c.args.printing.now.options c.args.printing.now.trace c.args.world.now c.step.new.self c.args.number c.args.event (g.O.Sink.taken c.args.out.now) c.in_err-outcome.ensures.err

pub text_of-requires-clause-mined : goal.text_of-requires-clause-mined
text_of-requires-clause-mined g c = has-mined c.args.world.now c.step.new.self c.args.event c.in_ok-outcome.outcome c.requires.has c.in_ok-outcome.ensures.keeps

pub returns-in_err-text-clause-memory : goal.returns-in_err-text-clause-memory
returns-in_err-text-clause-memory g c _ =
    plays-unwritten c.args.printing.now.options c.args.printing.now.trace true c.args.world.now c.step.new.self c.args.number c.args.event c.in_ok-outcome.outcome (g.O.Sink.taken c.args.out.now) c.in_ok-outcome.ensures.keeps

pub returns-in_err-put_all-clause-write : goal.returns-in_err-put_all-clause-write
returns-in_err-put_all-clause-write g c _ =
    plays-part c.args.printing.now.options c.args.printing.now.trace c.args.world.now c.step.new.self c.args.number c.args.event c.in_ok-outcome.outcome c.as_slice.result.now
    c.in_ok-outcome.ensures.keeps (λ set h s is. c.as_slice.ensures.value ∙ c.in_ok-text.ensures set h s is) false (g.O.Sink.taken c.args.out.now) (g.O.Sink.taken c.put_all.new.sink) c.in_err-put_all.ensures.err

pub returns-clause-ok : goal.returns-clause-ok
returns-clause-ok g c =
    plays-one c.args.printing.now.options c.args.printing.now.trace c.args.world.now c.step.new.self c.args.number c.args.event c.in_ok-outcome.outcome c.as_slice.result.now
    c.in_ok-outcome.ensures.keeps (λ set h s is. c.as_slice.ensures.value ∙ c.in_ok-text.ensures set h s is) (g.O.Sink.taken c.args.out.now) (g.O.Sink.taken c.put_all.new.sink) c.in_ok-put_all.ensures.ok

pub returns-clause-has : goal.returns-clause-has
returns-clause-has g c = keeps-history c.args.world.now c.step.new.self c.args.event c.in_ok-outcome.outcome c.requires.has c.in_ok-outcome.ensures.keeps
