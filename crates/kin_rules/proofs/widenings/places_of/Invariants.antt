use Rattle.std.proofs.Common.{◌≡◌, map, take}
use Rattle.kin_rules.specs.Places.{place}
use Rattle.kin_rules.proofs.widenings.places_of.Given as goal

abbrev pub invariant-loop-user : goal.invariant-loop-user
invariant-loop-user l = l.places.items ≡ map (place l.old) (take l.user-index l.users)
