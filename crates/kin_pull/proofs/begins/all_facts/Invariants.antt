use Rattle.std.proofs.Common.{◌≡◌, take, map}
use Rattle.kin_pull.specs.States.{now_in}
use Rattle.kin_pull.proofs.begins.all_facts.Given as goal

-- so far
abbrev pub invariant-loop-user : goal.invariant-loop-user
invariant-loop-user g l = l.facts.items ≡ map (now_in l.users l.kept) (take l.user-index l.more)
