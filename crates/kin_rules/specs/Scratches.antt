-- What an evaluation reads of a view.
use Rattle.std.specs.Prelude.{◌≡◌, ℕ, List, [], All, Option, count_by, length, map}
use Rattle.kin_ids.specs.declared.ids.User.{User}
use Rattle.kin_ids.specs.Parts.{PartView}
use Rattle.kin_rules.specs.declared.numbers.KCount.{KCount}
use Rattle.kin_rules.specs.Results.{ColumnView, AreExposures}

-- the present follow edges into a user, as a view has them
abbrev pub in_seen : PartView → User → ℕ
in_seen v u = count_by (λ h. h.present) (v.inn u)

-- the present follow edges out of a user
abbrev pub out_seen : PartView → User → ℕ
out_seen v u = count_by (λ h. h.present) (v.out u)

-- how many users a tag has
abbrev pub users_seen : PartView → List ℕ → ℕ
users_seen v t = length (v.tag_users t)

-- a column of values of the users alone
abbrev pub column_by : (User → Option ℕ) → List User → ColumnView
column_by f us = record { values = map f us; others = [] }

-- of each tag a list of exposures
pub record AreLists (tags : List (List ℕ)) (expos : List (List KCount)) : Type 0 where
  pub long : length expos ≡ length tags
  pub each : All AreExposures expos
