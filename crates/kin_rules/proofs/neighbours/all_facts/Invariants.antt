use Rattle.std.proofs.Common.{◌≡◌, take, map}
use Rattle.kin_rules.specs.LayerTables.{facts_seen}
use Rattle.kin_rules.proofs.neighbours.all_facts.Given as goal

-- the facts of the users so far
abbrev pub invariant-loop-user : goal.invariant-loop-user
invariant-loop-user g l = l.facts.items ≡ map (facts_seen (g.V.View.seen l.view)) (take l.user-index l.users)
