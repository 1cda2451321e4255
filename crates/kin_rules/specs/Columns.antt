-- Columns over the users.
use Rattle.std.specs.Prelude.{◌≡◌, ◌<◌, ◌==◌, ◌&&◌, ℕ, if◌then◌else◌, List, All, Option, length, map, vec_capacity, vec_len}
use Rattle.std.specs.List.{insert}
use Rattle.std.specs.Map.{lookup}
use Rattle.kin_ids.specs.declared.ids.User.{User}
use Rattle.kin_ids.specs.Users.{same_user}
use Rattle.kin_rules.specs.declared.columns.Column.{Column}
use Rattle.kin_rules.specs.Results.{ColumnView, value_of, value_in}

-- what a column shows
abbrev pub column_of : Column → ColumnView
column_of c = record { values = c.values.items; others = c.others.entries }

abbrev pub columns_of : List Column → List ColumnView
columns_of columns = map column_of columns

-- each has a value or none for so many users
abbrev pub AreOf : ℕ → List ColumnView → Type 0
AreOf n columns = All (λ (c : ColumnView). length c.values ≡ n) columns

-- each has room for one more user
abbrev pub HasRoom : List Column → Type 0
HasRoom columns = All (λ (c : Column). vec_len c.values < vec_capacity c.values) columns

-- the column with one more user, at this place, whose value stays
abbrev pub widened : ℕ → User → ColumnView → ColumnView
widened at u c = record c { values = insert c.values at (lookup (same_user u) c.others) }

-- the column over these users, where the value of each user stays
abbrev pub over_users : List User → List User → ColumnView → ColumnView
over_users old users c = record c { values = map (value_of old c) users }

-- the value of a user is this, and that of each other user is as it was
abbrev pub SetsValue : List User → ColumnView → User → Option ℕ → ColumnView → Type 0
SetsValue users old u value new = (x : User) → value_of users new x ≡ (if same_user x u then value else value_of users old x)

-- so in the column of that number, and all other columns are as they were
abbrev pub SetsValueIn : List User → List ColumnView → ℕ → User → Option ℕ → List ColumnView → Type 0
SetsValueIn users old i u value new =
    (j : ℕ) (x : User) → value_in users new j x ≡ (if j == i && same_user x u then value else value_in users old j x)
