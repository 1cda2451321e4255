-- Views whose edges lead to users, as the tests look at them.
use Rattle.std.specs.Prelude.{◌≡◌, true, List, map}
use Rattle.kin_ids.specs.declared.ids.User.{User}
use Rattle.kin_ids.specs.Users.{has_user}
use Rattle.kin_ids.specs.Parts.{PartView}
use Rattle.kin_store.specs.Lists.{half_key}

-- all edges out of w lead to users
pub record IsClosedAt (v : PartView) (us : List User) (w : User) : Type 0 where
  pub follows : (x : User) → has_user (map half_key (v.out w)) x ≡ true → has_user us x ≡ true
  pub mentions : (x : User) → has_user (v.mentions w) x ≡ true → has_user us x ≡ true

-- all edges out of users do
abbrev pub IsClosed : PartView → List User → Type 0
IsClosed v us = (w : User) → has_user us w ≡ true → IsClosedAt v us w
