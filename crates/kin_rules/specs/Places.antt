-- Places of users in a list.
use Rattle.std.specs.Prelude.{ℕ, suc, List, [], ◌∷◌, ◌++◌, Option, Some, None, if◌then◌else◌}
use Rattle.kin_ids.specs.declared.ids.User.{User}
use Rattle.kin_ids.specs.Users.{same_user, has_user}

-- the place of the first one that is x, or the length
abbrev pub place : List User → User → ℕ
place [] x = 0
place (u ∷ us) x = if same_user x u then 0 else suc (place us x)

-- the place of x, where it is one of these
abbrev pub found : List User → User → Option ℕ
found us x = if has_user us x then Some (place us x) else None

-- x as the last one, where it isn't one of these
abbrev pub with_user : List User → User → List User
with_user us x = if has_user us x then us else us ++ x ∷ []
