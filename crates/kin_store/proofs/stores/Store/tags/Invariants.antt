use Rattle.std.proofs.Common.{not}
use Rattle.kin_ids.specs.Users.{tag_cmp}
use Rattle.kin_store.specs.Rows.{is_none}
use Rattle.kin_store.specs.State.{users_of, tag_slot}
use Rattle.kin_store.proofs.Gathering.{Gathers}
use Rattle.kin_store.proofs.stores.Store.tags.Given as goal

-- those of the blocks so far
abbrev pub invariant-loop-slot : goal.invariant-loop-slot
invariant-loop-slot l = Gathers tag_cmp (tag_slot l.self) (λ u. not (is_none (users_of l.self u))) l.slot l.tags.keys
