use Rattle.std.proofs.Common.{◌≡◌, take, map}
use Rattle.kin_rules.specs.Edges.{places_of}
use Rattle.kin_rules.specs.LayerTables.{neighbours_seen}
use Rattle.kin_rules.proofs.neighbours.neighbours.Given as goal

-- the rows of the users so far
abbrev pub invariant-loop-user : goal.invariant-loop-user
invariant-loop-user g l = l.edges ≡ map (λ u. places_of l.index (neighbours_seen l.side (g.V.View.seen l.view) u)) (take l.user-index l.index)
