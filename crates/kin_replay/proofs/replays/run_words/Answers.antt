use Rattle.std.proofs.Common.{rules, ◌≡◌, inr}
use Rattle.kin_replay.specs.Files.{SomeRose, names_of}
use Rattle.kin_replay.specs.Loaded.{job_of}
use Rattle.kin_replay.specs.Ends.{EndsDone, EndsUnwritten}
use Rattle.kin_replay.specs.declared.refusals.Refusal.TheVariants as refusal
use Rattle.kin_replay.proofs.Loads.{rose-none}
use Rattle.kin_replay.proofs.Refused.{fitting, refused-so}
use Rattle.kin_replay.proofs.Ended.{ran-so, ran-done, ran-unwritten, ran-memory, refused-well}
use Rattle.kin_replay.proofs.replays.run_words.Goals as goal

pub returns-in-Ok-clause-done : goal.returns-in-Ok-clause-done
returns-in-Ok-clause-done g c = λ e.
    let j = job_of c.in-Ok.job in
    let r = c.run_job.result in
    let old = g.O.Sink.taken c.args.out.now in
    let new = g.O.Sink.taken c.run_job.new.out in
    ran-so c.args.words (g.F.Shelf.content c.args.shelf.now) j (λ i. EndsDone i old new r.world) c.in-Ok.ensures.job (ran-done j old new r.status r.world c.run_job.ensures.ends e)

pub returns-in-Ok-clause-write : goal.returns-in-Ok-clause-write
returns-in-Ok-clause-write g c = λ e.
    let j = job_of c.in-Ok.job in
    let r = c.run_job.result in
    let old = g.O.Sink.taken c.args.out.now in
    let new = g.O.Sink.taken c.run_job.new.out in
    ran-so c.args.words (g.F.Shelf.content c.args.shelf.now) j (λ i. EndsUnwritten i old new r.world) c.in-Ok.ensures.job (ran-unwritten j old new r.status r.world c.run_job.ensures.ends e)

pub returns-in-Ok-clause-memory : goal.returns-in-Ok-clause-memory
returns-in-Ok-clause-memory g c = λ e.
    let r = c.run_job.result in
    ran-memory c.args.words (g.F.Shelf.content c.args.shelf.now) (job_of c.in-Ok.job) (g.O.Sink.taken c.args.out.now) (g.O.Sink.taken c.run_job.new.out) r.status r.world c.run_job.ensures.ends e c.in-Ok.ensures.job

pub returns-in-Ok-clause-exact : goal.returns-in-Ok-clause-exact
returns-in-Ok-clause-exact g c = λ s files told calm refused.
    absurd (fitting c.args.words files c.in-Ok.job.lines.items (c.in-Ok.ensures.fit files told) (c.in-Ok.ensures.job files told).lines s refused)

pub returns-in-Err-clause-exact : goal.returns-in-Err-clause-exact
returns-in-Err-clause-exact g c = λ s files told calm refused.
    let before = g.F.Shelf.faults c.args.shelf.now in
    let now = g.F.Shelf.faults c.read_job.new.shelf in
    let names = names_of c.args.words in
    let read : c.in-Err.refusal ≡ refusal.Read → SomeRose before now names = search rules in
    rw (c.unbegun.ensures.status, c.status.ensures) (refused-so c.args.words files c.in-Err.refusal s (c.in-Err.ensures.err files told) refused (λ is. rose-none before now names (read is) calm))

pub returns-in-Err-clause-complete : goal.returns-in-Err-clause-complete
returns-in-Err-clause-complete g c = λ j files told fit job calm sink.
    let before = g.F.Shelf.faults c.args.shelf.now in
    let now = g.F.Shelf.faults c.read_job.new.shelf in
    let names = names_of c.args.words in
    let read : c.in-Err.refusal ≡ refusal.Read → SomeRose before now names = search rules in
    inr (rw (c.unbegun.ensures.status, c.status.ensures) (refused-well c.args.words files j.lines fit job.lines c.in-Err.refusal (c.in-Err.ensures.err files told) (λ is. rose-none before now names (read is) calm)))
