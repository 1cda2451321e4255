use Rattle.std.proofs.Common.{◌∙◌, ap, Err}
use Rattle.kin_world.proofs.Cutting.{cut-made, cut-refused}
use Rattle.kin_world.proofs.cores.Core.cut.Goals.{in-Ok, in-Err-NotReported, in-Err-Memory}
use Rattle.kin_world.proofs.cores.Core.cut.Goals as goal

pub returns-clause-cuts : goal.returns-clause-cuts
returns-clause-cuts c =
    let hub = c.cut.new.self in
    let told = c.cut.ensures in
    elim c.match-cut.branch [
      | in-Ok w ↦ rw (w.result-is, ← c.self.view_is) (cut-made _ c.args.n hub c.cut.result told.not_reported w.in-Ok.cut w.in-Ok.is told.cut told.appended told.stands)
      | in-Err-NotReported w ↦ rw (w.result-is, ← c.self.view_is) (cut-refused _ c.args.n hub c.cut.result told.not_reported w.in-Err-NotReported.part (w.in-Err-NotReported.is ∙ ap Err w.in-Err-NotReported.field-0-is) told.err)
      | in-Err-Memory w ↦ rw w.result-is tt
    ]
