use Rattle.std.proofs.Common.{◌≡◌, take, map}
use Rattle.kin_rules.specs.Places.{place}
use Rattle.kin_pull.proofs.begins.places.Given as goal

-- so far
abbrev pub invariant-loop-user : goal.invariant-loop-user
invariant-loop-user l = l.places.items ≡ map (place l.users) (take l.user-index l.more)
