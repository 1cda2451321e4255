use Rattle.std.proofs.Common.{◌≡◌, map, take}
use Rattle.kin_ids.specs.declared.ids.User.{User}
use Rattle.kin_rules.specs.Edges.{followed, places_of}
use Rattle.kin_rules.proofs.edges.Edges.follows.Given as goal

-- the rows of the first users
abbrev pub invariant-loop-user : goal.invariant-loop-user
invariant-loop-user g l = l.edges ≡ map (λ (u : User). places_of l.index (followed (g.V.View.seen l.view) u)) (take l.user-index l.index)
