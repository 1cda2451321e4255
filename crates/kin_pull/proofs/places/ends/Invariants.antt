use Rattle.std.proofs.Common.{◌≡◌, ◌++◌}
use Rattle.kin_rules.specs.Edges.{places_of}
use Rattle.kin_rules.specs.LayerTables.{present_ends}
use Rattle.kin_pull.proofs.places.ends.Given as goal

-- the places of the ends so far, and of those that are left
abbrev pub invariant-loop-half : goal.invariant-loop-half
invariant-loop-half l = l.row.items ++ places_of l.users (present_ends l.half-iterator) ≡ places_of l.users (present_ends l.halves)
