use Rattle.std.proofs.Common.{◌≡◌, None, is_some, true, rules}
use Rattle.std.proofs.lemmas.Result.{on_ok_weaker}
use Rattle.kin_store.specs.Changes.{kept}
use Rattle.kin_store.specs.Hints.{op_place, NotesOp}
use Rattle.kin_store.proofs.Indexing.{ready-new, ready-there}
use Rattle.kin_store.proofs.part_snaps.note_new.Goals as goal

pub returns-then-is_some-clause-ready : goal.returns-then-is_some-clause-ready
returns-then-is_some-clause-ready c =
    let some : is_some (op_place (kept c.args.store.now) c.args.op.now) ≡ true = search rules in
    ready-there (kept c.args.store.now) c.args.op.now c.args.index.now some c.requires.known

pub returns-clause-ready : goal.returns-clause-ready
returns-clause-ready c =
    let none : op_place (kept c.args.store.now) c.args.op.now ≡ None = search rules in
    on_ok_weaker c.note.result (λ (notes : NotesOp c.args.index.now c.args.op.now c.count.result c.note.new.self).
    ready-new (kept c.args.store.now) c.args.op.now c.args.index.now c.note.new.self c.count.result c.requires.known none c.count.ensures
    notes) c.note.ensures.ok
