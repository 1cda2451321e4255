use Rattle.std.proofs.Common.{◌≡◌, ◌∙◌, ◌+◌, ◌++◌, ◌∷◌, [], List, sym, ap, subst, get_or, take, arith, inl}
use Rattle.std.proofs.lemmas.List.{take_more}
use Rattle.kin_ids.specs.declared.ids.IngestId.{IngestId}
use Rattle.kin_script.specs.declared.events.Event.{Event}
use Rattle.kin_script.specs.declared.events.Event.TheVariants as event
use Rattle.kin_script.specs.declared.outcomes.Outcome.{Outcome}
use Rattle.kin_history.specs.Setting.{Setting, IsEvent}
use Rattle.kin_world.specs.Runs.{Runs, RunsInPart}
use Rattle.kin_world.proofs.Cutting.{has-room}
use Rattle.kin_world.proofs.Running.{on_err, runs-push, runs-stop, runs-none}
use Rattle.kin_world.proofs.runs.run.Goals as goal

abbrev no_event : Event
no_event = event.Stamp (record { 0 = 0 }) 0

pub step-requires-clause-event : goal.step-requires-clause-event
step-requires-clause-event c =
    let k = c.loop-event.event-index in
    subst (λ (set : Setting). IsEvent set (get_or c.args.events.now k no_event)) (sym c.loop-event.invariant.setting) (c.requires.events k no_event c.loop-event-test.true)

pub step-requires-clause-room : goal.step-requires-clause-room
step-requires-clause-room c =
    let more = c.loop-event-test.true in
    let cuts = c.loop-event.invariant.cuts in
    let room = c.requires.room in
    has-room c.loop-event.world _ (omega arith)

pub loop-event-preserved : goal.loop-event-preserved
loop-event-preserved c =
    let k = c.loop-event.event-index in
    let e = get_or c.args.events.now k no_event in
    let runs = runs-push c.args.world.now c.loop-event.world c.step.new.self (take k c.args.events.now) c.loop-event.told.items e c.in_ok-step.field-0 c.loop-event.invariant.runs c.in_ok-step.ensures.keeps in
    record {
      setting = c.in_ok-step.ensures.setting ∙ c.loop-event.invariant.setting;
      cuts = let was = c.loop-event.invariant.cuts in let one = c.in_ok-step.ensures.cuts in omega arith;
      runs = rw (take_more c.args.events.now k no_event c.loop-event-test.true, c.in_ok-push.ensures.items) runs;
    }

pub returns-in_err-push-clause-err : goal.returns-in_err-push-clause-err
returns-in_err-push-clause-err c =
    let k = c.loop-event.event-index in
    let e = get_or c.args.events.now k no_event in
    on_err _ (RunsInPart c.args.world.now c.args.events.now c.step.new.self) (
      k + 1,
      λ set h s. rw (take_more c.args.events.now k no_event c.loop-event-test.true)
          (inl (runs-push c.args.world.now c.loop-event.world c.step.new.self (take k c.args.events.now) c.loop-event.told.items e c.in_ok-step.field-0 c.loop-event.invariant.runs c.in_ok-step.ensures.keeps set h s).1),
    )

pub returns-in_err-step-clause-err : goal.returns-in_err-step-clause-err
returns-in_err-step-clause-err c =
    let k = c.loop-event.event-index in
    let e = get_or c.args.events.now k no_event in
    on_err _ (RunsInPart c.args.world.now c.args.events.now c.step.new.self) (
      k,
      runs-stop c.args.world.now c.loop-event.world c.step.new.self (take k c.args.events.now) c.loop-event.told.items e c.loop-event.invariant.runs c.in_err-step.ensures.err,
    )
