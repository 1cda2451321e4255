use Rattle.std.proofs.Common.{sym, ◌∙◌}
use Rattle.kin_store.specs.Changes.{kept}
use Rattle.kin_store.proofs.Owners.{count-owner}
use Rattle.kin_store.proofs.stores.Store.count.Goals as goal

pub returns-in-AddOut : goal.returns-in-AddOut
returns-in-AddOut c = c.row_count.ensures ∙ sym (count-owner (kept c.args.self.now) c.in-AddOut.user c.args.op.now c.in-AddOut.is)
