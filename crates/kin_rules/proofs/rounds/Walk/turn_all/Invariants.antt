use Rattle.std.proofs.Common.{◌≡◌, drop}
use Rattle.kin_rules.specs.Rounds.{turned_all}
use Rattle.kin_rules.proofs.rounds.Walk.turn_all.Given as goal

-- whose turns are left
abbrev pub invariant-loop-place : goal.invariant-loop-place
invariant-loop-place l = turned_all l.follows l.mentions l.offers (drop l.place-index l.places) l.self ≡ turned_all l.follows l.mentions l.offers l.places l.fn.self
