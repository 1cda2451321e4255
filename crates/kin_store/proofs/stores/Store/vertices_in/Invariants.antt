use Rattle.std.proofs.Common.{◌≡◌, ◌++◌, not, filter}
use Rattle.std.specs.Map.{keys_of}
use Rattle.kin_store.specs.Rows.{is_apart}
use Rattle.kin_store.specs.State.{block_at, row_of}
use Rattle.kin_store.proofs.stores.Store.vertices_in.Given as goal

-- the users so far, and those of the rows that are left
abbrev pub invariant-loop-user : goal.invariant-loop-user
invariant-loop-user l =
    l.users.items ++ filter (λ u. not (is_apart (row_of l.self u))) l.user-iterator ≡ filter (λ u. not (is_apart (row_of l.self u)))
    (keys_of (block_at l.self l.slot).rows)
