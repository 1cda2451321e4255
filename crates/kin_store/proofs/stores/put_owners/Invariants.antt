use Rattle.std.proofs.Common.{◌≡◌, ◌++◌}
use Rattle.std.specs.Map.{keys_of}
use Rattle.kin_store.proofs.stores.put_owners.Given as goal

-- the users so far, and those of the rows that are left
abbrev pub invariant-loop-user : goal.invariant-loop-user
invariant-loop-user l = l.users.items ++ l.user-iterator ≡ l.initial.users.items ++ keys_of l.block.rows
