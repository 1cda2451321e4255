use Rattle.std.proofs.Common.{rules, Some, map, string_bytes}
use Rattle.std.specs.Result.{IsErrOf}
use Rattle.kin_io.specs.Outside.{Rose}
use Rattle.kin_words.specs.declared.faults.WordsFault.TheVariants as fault
use Rattle.kin_replay.specs.Files.{FilesFit, IsJob, IsRefused, NoneRose, SomeRose, names_of}
use Rattle.kin_replay.specs.Ends.{Asked, EndsDone, EndsUnwritten, EndsStarved, IsDoneOrMemory, IsOrMemory}
use Rattle.kin_replay.proofs.Ranges.{in-range}
use Rattle.kin_replay.proofs.Ended.{for-words, for-asked, for-world}
use Rattle.kin_replay.proofs.replays.replay.Goals as goal

pub run_words-requires : goal.run_words-requires
run_words-requires g c = record { ranges = in-range (map string_bytes c.args.words.now) c.in-Ok.words c.in-Ok.ensures.ok }

pub returns-in-Ok-clause-done : goal.returns-in-Ok-clause-done
returns-in-Ok-clause-done g c = λ e.
    let old = g.O.Sink.taken c.args.out.now in
    let new = g.O.Sink.taken c.run_words.new.out in
    for-asked (map string_bytes c.args.words.now) c.in-Ok.words c.in-Ok.ensures.ok (g.F.Shelf.content c.args.shelf.now) (λ w files. Asked w files (λ j. EndsDone j old new c.run_words.result.world))
    (c.run_words.ensures.done e)

pub returns-in-Ok-clause-write : goal.returns-in-Ok-clause-write
returns-in-Ok-clause-write g c = λ e.
    let old = g.O.Sink.taken c.args.out.now in
    let new = g.O.Sink.taken c.run_words.new.out in
    for-asked (map string_bytes c.args.words.now) c.in-Ok.words c.in-Ok.ensures.ok (g.F.Shelf.content c.args.shelf.now) (λ w files. Asked w files (λ j. EndsUnwritten j old new c.run_words.result.world))
    (c.run_words.ensures.write e)

pub returns-in-Ok-clause-memory : goal.returns-in-Ok-clause-memory
returns-in-Ok-clause-memory g c = λ e.
    let old = g.O.Sink.taken c.args.out.now in
    let new = g.O.Sink.taken c.run_words.new.out in
    for-world (map string_bytes c.args.words.now) c.in-Ok.words c.in-Ok.ensures.ok (g.F.Shelf.content c.args.shelf.now) c.run_words.result.world
    (λ v w files. Asked w files (λ j. EndsStarved j old new (Some v))) (c.run_words.ensures.memory e)

pub returns-in-Ok-clause-read : goal.returns-in-Ok-clause-read
returns-in-Ok-clause-read g c = λ e.
    for-words (map string_bytes c.args.words.now) c.in-Ok.words c.in-Ok.ensures.ok (λ w. SomeRose (g.F.Shelf.faults c.args.shelf.now) (g.F.Shelf.faults c.run_words.new.shelf) (names_of w)) (c.run_words.ensures.read e)

pub returns-in-Ok-clause-refused : goal.returns-in-Ok-clause-refused
returns-in-Ok-clause-refused g c = λ e.
    for-asked (map string_bytes c.args.words.now) c.in-Ok.words c.in-Ok.ensures.ok (g.F.Shelf.content c.args.shelf.now) (λ w files. IsRefused w files c.run_words.result.status) (c.run_words.ensures.refused e)

pub returns-in-Ok-clause-exact : goal.returns-in-Ok-clause-exact
returns-in-Ok-clause-exact g c = λ s.
    let before = g.F.Shelf.faults c.args.shelf.now in
    let now = g.F.Shelf.faults c.run_words.new.shelf in
    for-asked (map string_bytes c.args.words.now) c.in-Ok.words c.in-Ok.ensures.ok (g.F.Shelf.content c.args.shelf.now)
    (λ w files. NoneRose before now (names_of w) → IsRefused w files s → IsOrMemory s c.run_words.result.status) (c.run_words.ensures.exact s)

pub returns-in-Ok-clause-complete : goal.returns-in-Ok-clause-complete
returns-in-Ok-clause-complete g c = λ j.
    let before = g.F.Shelf.faults c.args.shelf.now in
    let now = g.F.Shelf.faults c.run_words.new.shelf in
    let sink_before = g.O.Sink.faults c.args.out.now in
    let sink_now = g.O.Sink.faults c.run_words.new.out in
    for-asked (map string_bytes c.args.words.now) c.in-Ok.words c.in-Ok.ensures.ok (g.F.Shelf.content c.args.shelf.now)
    (λ w files. FilesFit w files → IsJob w files j → NoneRose before now (names_of w) → (Rose sink_before sink_now → ⊥) → IsDoneOrMemory c.run_words.result.status) (c.run_words.ensures.complete j)

pub returns-in-Err-Usage-clause-usage : goal.returns-in-Err-Usage-clause-usage
returns-in-Err-Usage-clause-usage g c = λ e.
    let hit : IsErrOf c.read_replay.result fault.Usage = search rules in
    c.read_replay.ensures.usage hit

pub returns-in-Err-Usage-clause-exact : goal.returns-in-Err-Usage-clause-exact
returns-in-Err-Usage-clause-exact g c = λ s w asks files told calm refused.
    let hit : IsErrOf c.read_replay.result fault.Usage = search rules in
    absurd (c.read_replay.ensures.usage hit w asks)

pub returns-in-Err-Usage-clause-complete : goal.returns-in-Err-Usage-clause-complete
returns-in-Err-Usage-clause-complete g c = λ j w asks files told fit job calm sink.
    let hit : IsErrOf c.read_replay.result fault.Usage = search rules in
    absurd (c.read_replay.ensures.usage hit w asks)
