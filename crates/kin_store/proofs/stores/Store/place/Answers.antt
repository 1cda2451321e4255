use Rattle.std.proofs.Common.{sym, ◌∙◌}
use Rattle.kin_store.specs.Changes.{kept}
use Rattle.kin_store.proofs.Owners.{place-owner}
use Rattle.kin_store.proofs.stores.Store.place.Goals as goal

pub row_place-requires : goal.row_place-requires
row_place-requires c = λ i f e. c.requires i f (place-owner (kept c.args.self.now) c.in-AddOut.user c.args.op.now c.in-AddOut.is ∙ e)

pub returns-in-AddOut : goal.returns-in-AddOut
returns-in-AddOut c = c.row_place.ensures ∙ sym (place-owner (kept c.args.self.now) c.in-AddOut.user c.args.op.now c.in-AddOut.is)
