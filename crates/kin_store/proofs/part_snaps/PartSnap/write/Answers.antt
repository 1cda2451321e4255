use Rattle.std.proofs.Common.{sym, ap, ◌∙◌}
use Rattle.kin_store.specs.State.{PartState}
use Rattle.kin_store.specs.Changes.{kept}
use Rattle.kin_store.specs.Hints.{op_place}
use Rattle.kin_store.proofs.Indexing.{indexed-hint}
use Rattle.kin_store.proofs.part_snaps.PartSnap.write.Goals as goal

pub place-at-requires : goal.place-at-requires
place-at-requires c = λ i f e. c.hint.ensures
    ∙ indexed-hint (kept c.args.self.now) c.args.op.now c.args.index.now c.requires.indexed i f
    (ap (λ (s : PartState). op_place (kept s) c.args.op.now) (sym (c.deref.ensures ∙ c.self.view_is)) ∙ e)
