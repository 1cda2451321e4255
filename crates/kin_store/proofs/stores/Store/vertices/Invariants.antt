use Rattle.std.proofs.Common.{not}
use Rattle.kin_ids.specs.Users.{user_cmp}
use Rattle.kin_store.specs.Rows.{is_apart}
use Rattle.kin_store.specs.State.{row_of, user_slot}
use Rattle.kin_store.proofs.Gathering.{Gathers}
use Rattle.kin_store.proofs.stores.Store.vertices.Given as goal

-- those of the blocks so far
abbrev pub invariant-loop-slot : goal.invariant-loop-slot
invariant-loop-slot l = Gathers user_cmp (user_slot l.self) (λ u. not (is_apart (row_of l.self u))) l.slot l.users.keys
