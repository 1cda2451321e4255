use Rattle.std.proofs.Common.{◌≡◌, ◌++◌}
use Rattle.kin_rules.specs.Edges.{places_of}
use Rattle.kin_rules.proofs.edges.put_places.Given as goal

-- whose places are left to put
abbrev pub invariant-loop-user : goal.invariant-loop-user
invariant-loop-user l = l.row.items ++ places_of l.index l.user-iterator ≡ l.fn.row.items ++ places_of l.index l.users
