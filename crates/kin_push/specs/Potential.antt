-- What turns that are still to come may read.
use Rattle.std.specs.Prelude.{ℕ, ◌+◌, ◌*◌, Bool, List, [], ◌∷◌, Option, Some, None, if◌then◌else◌}
use Rattle.kin_ids.specs.declared.ids.User.{User}
use Rattle.kin_rules.specs.Walks.{Net}
use Rattle.kin_rules.specs.Costs.{bound}

abbrev pub sum_over : (User → ℕ) → List User → ℕ
sum_over f [] = 0
sum_over f (u ∷ us) = f u + sum_over f us

-- a value as a number: who has none counts as having had this much
abbrev pub counted : ℕ → Option ℕ → ℕ
counted most None = most
counted most (Some n) = n

-- each user may take its turn once for each number by which its value can still fall, and once more where it is active
abbrev pub potential : Net → (User → ℕ) → (User → Option ℕ) → (User → Bool) → ℕ
potential net reads f active = sum_over (λ u. (counted (bound net) (f u) + (if active u then 1 else 0)) * reads u) net.users
