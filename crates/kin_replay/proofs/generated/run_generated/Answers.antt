use Rattle.std.proofs.Common.{◌≡◌, List, [], Some, All, length, sym, ap, subst, ◌∙◌, arith}
use Rattle.std.proofs.lemmas.Result.{on_ok_weaker, on_err_weaker}
use Rattle.kin_script.specs.declared.events.Event.{Event}
use Rattle.kin_history.specs.Setting.{Setting, IsEvent, after}
use Rattle.kin_gen.specs.Rounds.{gen_events}
use Rattle.kin_world.proofs.Cutting.{cuts_is}
use Rattle.kin_world.proofs.Running.{on_err}
use Rattle.kin_world.specs.Runs.{RunsInPart}
use Rattle.kin_world.specs.Stands.{Stands}
use Rattle.kin_world.specs.Worlds.{setting_of}
use Rattle.kin_replay.specs.Demos.{StandsForDemoFront, demo_setting}
use Rattle.kin_replay.proofs.DemoHistory.{in-range-all, ran-all, drained-front, run-front, no-front}
use Rattle.kin_replay.proofs.Drains.{setting-is}
use Rattle.kin_replay.proofs.generated.run_generated.Goals as goal

pub returns-in_err-events-clause-err : goal.returns-in_err-events-clause-err
returns-in_err-events-clause-err c = on_err _ (StandsForDemoFront c.args.words (Some c.args.world.now)) (no-front c.args.words c.args.world.now c.requires.stands)

pub run-requires-clause-events : goal.run-requires-clause-events
run-requires-clause-events c =
    let w = c.args.words in
    let set = demo_setting w in
    let are = c.as_slice.ensures.value ∙ c.in_ok-events.ensures in
    subst (λ (es : List Event). All (IsEvent (setting_of c.args.world.now)) es) (sym are)
    (subst (λ (s : Setting). All (IsEvent s) (gen_events w.seed w.records)) (sym (setting-is set c.args.world.now [] c.requires.stands)) (in-range-all w (c.event_laws.ensures.range w.seed w.records c.requires.few)))

pub run-requires-clause-room : goal.run-requires-clause-room
run-requires-clause-room c =
    let w = c.args.words in
    let none = cuts_is (demo_setting w) c.args.world.now [] c.requires.stands in
    let few = c.event_laws.ensures.few w.seed w.records c.requires.few in
    let same : length c.as_slice.result.now ≡ length (gen_events w.seed w.records) = ap (λ (es : List Event). length es) (c.as_slice.ensures.value ∙ c.in_ok-events.ensures) in
    omega (arith, none, few, same)

pub returns-in_err-run-clause-err : goal.returns-in_err-run-clause-err
returns-in_err-run-clause-err c = on_err _ (StandsForDemoFront c.args.words (Some c.run.new.world))
    (run-front c.args.words c.args.world.now c.run.new.world c.requires.stands
    (subst (λ (es : List Event). RunsInPart c.args.world.now es c.run.new.world) (c.as_slice.ensures.value ∙ c.in_ok-events.ensures) c.in_err-run.ensures.err))

pub drain-requires : goal.drain-requires
drain-requires c = record { has = (demo_setting c.args.words, after [] c.as_slice.result.now, (c.in_ok-run.ensures.runs (demo_setting c.args.words) [] c.requires.stands).1) }

pub returns-clause-ok : goal.returns-clause-ok
returns-clause-ok c = on_ok_weaker c.drain.result (ran-all c.args.words c.args.world.now c.run.new.world c.drain.new.world
    (subst (λ (es : List Event). Stands (demo_setting c.args.words) c.run.new.world (after [] es)) (c.as_slice.ensures.value ∙ c.in_ok-events.ensures)
    (c.in_ok-run.ensures.runs (demo_setting c.args.words) [] c.requires.stands).1)) c.drain.ensures.ok

pub returns-clause-err : goal.returns-clause-err
returns-clause-err c = on_err_weaker c.drain.result (drained-front c.args.words c.run.new.world c.drain.new.world
    (subst (λ (es : List Event). Stands (demo_setting c.args.words) c.run.new.world (after [] es)) (c.as_slice.ensures.value ∙ c.in_ok-events.ensures)
    (c.in_ok-run.ensures.runs (demo_setting c.args.words) [] c.requires.stands).1)) c.drain.ensures.err
