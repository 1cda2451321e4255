use Rattle.std.proofs.Common.{◌≡◌, drop}
use Rattle.kin_rules.specs.Rounds.{offered_all}
use Rattle.kin_rules.proofs.rounds.Walk.offer_all.Given as goal

-- what is left to offer
abbrev pub invariant-loop-place : goal.invariant-loop-place
invariant-loop-place l = offered_all l.ahead l.value (drop l.place-index l.places) l.self ≡ offered_all l.ahead l.value l.places l.fn.self
