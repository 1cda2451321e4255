use Rattle.std.proofs.Common.{◌≡◌, [], map, take}
use Rattle.kin_push.specs.States.{state, value_in}
use Rattle.kin_push.proofs.begins.widened.Given as goal

-- the values of the users so far
abbrev pub invariant-loop-user : goal.invariant-loop-user
invariant-loop-user l = l.wide.items ≡ map (value_in (state l.users l.values [])) (take l.user-index l.more)
