use Rattle.std.proofs.Common.{rules, ◌≡◌, true, false, List, [], Some, All, length, sym, ap, subst, ◌∙◌, arith}
use Rattle.kin_ids.specs.declared.ids.User.{User}
use Rattle.kin_ids.specs.declared.statuses.Status.{Status}
use Rattle.kin_history.specs.Setting.{Setting, IsEvent}
use Rattle.kin_script.specs.declared.events.Line.{Line}
use Rattle.kin_world.proofs.Cutting.{cuts_is}
use Rattle.kin_world.specs.Stands.{Stands}
use Rattle.kin_world.specs.Worlds.{setting_of}
use Rattle.kin_replay.specs.Ends.{JobEnds}
use Rattle.kin_replay.specs.Loaded.{job_of}
use Rattle.kin_replay.specs.Plays.{Scene, PlaysWhole, PlaysWholeFront}
use Rattle.kin_replay.proofs.Drains.{setting-is}
use Rattle.kin_replay.proofs.Wholes.{ends-done, ends-unwritten, ends-starved}
use Rattle.kin_replay.proofs.runs.run_job.Goals.{in-Ok-play_all, in-Err-Write, in-Err-Memory}
use Rattle.kin_replay.proofs.runs.run_job.Goals as goal

pub play_all-requires-clause-lines : goal.play_all-requires-clause-lines
play_all-requires-clause-lines g c =
    let set = (job_of c.args.job).setting in
    let opened : Stands set c.in-Ok.world [] = subst (λ (us : List User). Stands (record set { landmarks = us }) c.in-Ok.world []) c.as_slice-landmarks.ensures c.in-Ok.ensures.stands in
    subst (λ (lines : List Line). All (λ (line : Line). IsEvent (setting_of c.in-Ok.world) line.event) lines) (sym c.as_slice.ensures.value)
    (subst (λ (s : Setting). All (λ (line : Line). IsEvent s line.event) c.args.job.lines.items) (sym (setting-is set c.in-Ok.world [] opened)) c.requires.ready.events)

pub play_all-requires-clause-room : goal.play_all-requires-clause-room
play_all-requires-clause-room g c =
    let none = cuts_is (_) c.in-Ok.world [] c.in-Ok.ensures.stands in
    let few = c.requires.ready.few_lines in
    let same : length c.as_slice.result.now ≡ length c.args.job.lines.items = ap (λ (lines : List Line). length lines) c.as_slice.ensures.value in
    omega (arith, none, few, same)

pub play_all-requires-clause-has : goal.play_all-requires-clause-has
play_all-requires-clause-has g c = (_, [], c.in-Ok.ensures.stands)

pub play_all-requires-clause-landmarks : goal.play_all-requires-clause-landmarks
play_all-requires-clause-landmarks g c = c.in-Ok.ensures.stands.over.landmarks ∙ c.as_slice-landmarks.ensures

pub returns-clause-ends : goal.returns-clause-ends
returns-clause-ends g c =
    let j = job_of c.args.job in
    let ready = c.requires.ready in
    let opened : Stands j.setting c.in-Ok.world [] = subst (λ (us : List User). Stands (record j.setting { landmarks = us }) c.in-Ok.world []) c.as_slice-landmarks.ensures c.in-Ok.ensures.stands in
    let was = g.O.Sink.taken c.args.out.now in
    let now = g.O.Sink.taken c.play_all.new.out in
    let start : Scene = record { world = c.in-Ok.world; taken = was } in
    let end : Scene = record { world = c.play_all.new.world; taken = now } in
    let lines = c.as_slice.ensures.value in
    let so : (s : Status) → c.match-play_all.status ≡ s → JobEnds j was now s (Some c.play_all.new.world) → JobEnds j was now c.match-play_all.status (Some c.play_all.new.world) =
    λ s is. subst (λ (x : Status). JobEnds j was now x (Some c.play_all.new.world)) (sym is) in
    elim c.match-play_all.branch [
      | in-Ok-play_all w ↦ so _ w.status-is (ends-done j ready c.in-Ok.world c.play_all.new.world was now opened (subst (λ (ls : List Line). PlaysWhole j.options j.trace ls start end) lines w.in-Ok-play_all.ensures.ok))
      | in-Err-Write w ↦ so _ w.status-is (ends-unwritten j ready c.in-Ok.world c.play_all.new.world was now opened (subst (λ (ls : List Line). PlaysWholeFront false j.options j.trace ls start end) lines (w.in-Err-Write.ensures.write (search rules))))
      | in-Err-Memory w ↦ so _ w.status-is (ends-starved j ready c.in-Ok.world c.play_all.new.world was now opened (subst (λ (ls : List Line). PlaysWholeFront true j.options j.trace ls start end) lines (w.in-Err-Memory.ensures.memory (search rules))))
    ]
