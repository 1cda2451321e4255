use Rattle.kin_store.proofs.Gathering.{OwnersTo}
use Rattle.kin_store.proofs.stores.Store.owners.Given as goal

-- those of the blocks so far
abbrev pub invariant-loop-slot : goal.invariant-loop-slot
invariant-loop-slot l = OwnersTo l.self l.slot l.users.items
