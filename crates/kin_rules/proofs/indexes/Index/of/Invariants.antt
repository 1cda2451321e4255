use Rattle.std.proofs.Common.{◌≡◌, take}
use Rattle.kin_rules.proofs.indexes.Index.of.Given as goal

-- the users so far are numbered
abbrev pub invariant-loop-user : goal.invariant-loop-user
invariant-loop-user l = l.index ≡ take l.user-index l.users
