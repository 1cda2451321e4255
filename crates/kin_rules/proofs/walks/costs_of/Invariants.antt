use Rattle.std.proofs.Common.{◌≡◌, ℕ, Option, None, map, take, if◌then◌else◌}
use Rattle.kin_ids.specs.declared.ids.User.{User}
use Rattle.kin_ids.specs.Users.{has_user}
use Rattle.kin_rules.specs.UserCosts.{cost_of}
use Rattle.kin_rules.proofs.walks.costs_of.Given as goal

-- the first users have their costs
abbrev pub invariant-loop-i : goal.invariant-loop-i
invariant-loop-i l = (f : User → Option ℕ) → l.values ≡ map f l.users → (x : User) → cost_of l.costs x ≡ (if has_user (take l.i l.users) x then f x else None)
