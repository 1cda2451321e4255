-- Costs of users, read and written.
use Rattle.std.specs.Prelude.{ℕ, List, Option}
use Rattle.std.specs.Map.{lookup}
use Rattle.kin_ids.specs.declared.ids.User.{User}
use Rattle.kin_ids.specs.Users.{same_user}

-- the cost of a user, where it has one
abbrev pub cost_of : List (User × ℕ) → User → Option ℕ
cost_of costs u = lookup (same_user u) costs
