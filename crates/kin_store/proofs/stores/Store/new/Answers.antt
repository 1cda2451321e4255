use Rattle.kin_store.proofs.Empties.{empty-store}
use Rattle.kin_store.proofs.stores.Store.new.Goals as goal

pub invariant_of-result : goal.invariant_of-result
invariant_of-result c = empty-store c.args.part.0 c.args.parts c.in_ok-new.field-0 c.in_ok-new.ensures c.requires
