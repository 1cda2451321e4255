use Rattle.std.proofs.Common.{rules, map, string_bytes}
use Rattle.std.specs.Result.{IsErrOf}
use Rattle.kin_words.specs.declared.faults.WordsFault.TheVariants as fault
use Rattle.kin_replay.specs.Demos.{DemoDone, DemoUnwritten, StandsForDemoFront}
use Rattle.kin_replay.proofs.DemoEnds.{for-demo, run-well}
use Rattle.kin_replay.proofs.Ranges.{demo-few}
use Rattle.kin_replay.proofs.demos.demo.Goals as goal

pub run_demo-requires : goal.run_demo-requires
run_demo-requires g c = record { few = demo-few (map string_bytes c.args.words.now) c.in-Ok.words c.in-Ok.ensures.ok }

pub returns-in-Ok-clause-done : goal.returns-in-Ok-clause-done
returns-in-Ok-clause-done g c = λ e.
    let old = g.O.Sink.taken c.args.out.now in
    let new = g.O.Sink.taken c.run_demo.new.out in
    for-demo (map string_bytes c.args.words.now) c.in-Ok.words c.in-Ok.ensures.ok (λ w. DemoDone w old new c.run_demo.result.world) (c.run_demo.ensures.done e)

pub returns-in-Ok-clause-write : goal.returns-in-Ok-clause-write
returns-in-Ok-clause-write g c = λ e.
    let old = g.O.Sink.taken c.args.out.now in
    let new = g.O.Sink.taken c.run_demo.new.out in
    for-demo (map string_bytes c.args.words.now) c.in-Ok.words c.in-Ok.ensures.ok (λ w. DemoUnwritten w old new c.run_demo.result.world) (c.run_demo.ensures.write e)

pub returns-in-Ok-clause-memory : goal.returns-in-Ok-clause-memory
returns-in-Ok-clause-memory g c = λ e.
    for-demo (map string_bytes c.args.words.now) c.in-Ok.words c.in-Ok.ensures.ok (λ w. StandsForDemoFront w c.run_demo.result.world) (c.run_demo.ensures.memory e)

pub returns-in-Ok-clause-complete : goal.returns-in-Ok-clause-complete
returns-in-Ok-clause-complete g c = λ w asks calm.
    run-well c.run_demo.result.status c.run_demo.ensures.ended (λ e. calm (c.run_demo.ensures.write_cause e))

pub returns-in-Err-Usage-clause-usage : goal.returns-in-Err-Usage-clause-usage
returns-in-Err-Usage-clause-usage g c = λ e.
    let hit : IsErrOf c.read_demo.result fault.Usage = search rules in
    c.read_demo.ensures.usage hit

pub returns-in-Err-Usage-clause-complete : goal.returns-in-Err-Usage-clause-complete
returns-in-Err-Usage-clause-complete g c = λ w asks calm.
    let hit : IsErrOf c.read_demo.result fault.Usage = search rules in
    absurd (c.read_demo.ensures.usage hit w asks)
