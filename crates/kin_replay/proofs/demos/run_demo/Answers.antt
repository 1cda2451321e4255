use Rattle.std.proofs.Common.{Option, sym, subst, ◌∙◌}
use Rattle.kin_io.specs.Outside.{Grew, GrewBySome}
use Rattle.kin_world.specs.Worlds.{WorldView}
use Rattle.kin_replay.specs.Demos.{DemoDone, DemoUnwritten}
use Rattle.kin_replay.proofs.demos.run_demo.Goals as goal

pub returns-in_default-write-clause-write : goal.returns-in_default-write-clause-write
returns-in_default-write-clause-write g c _ =
    let old = g.O.Sink.taken c.args.out.now in
    let new = g.O.Sink.taken c.write.new.out in
    subst (λ (world : Option WorldView). DemoUnwritten c.args.words old new world) (sym c.ended-in_default-write.ensures.world)
    (subst (GrewBySome old new) (c.as_slice.ensures.value ∙ c.in-Ok-told.ensures.text) c.in_default-write.ensures.err, c.in-Ok-told.ensures.stands)

pub returns-clause-done : goal.returns-clause-done
returns-clause-done g c _ =
    let old = g.O.Sink.taken c.args.out.now in
    let new = g.O.Sink.taken c.write.new.out in
    subst (λ (world : Option WorldView). DemoDone c.args.words old new world) (sym c.ended-2.ensures.world)
    (subst (Grew old new) (c.as_slice.ensures.value ∙ c.in-Ok-told.ensures.text) c.in-Ok-write.ensures.ok, c.in-Ok-told.ensures.stands)
