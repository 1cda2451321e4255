-- Blocks in which one user's row or one tag's users changed.
use Rattle.std.proofs.Common.{◌≡◌, ℕ, List, [], cond, Option, Some, None, unwrap_or, sym, ap}
use Rattle.std.specs.Map.{lookup}
use Rattle.kin_ids.specs.declared.ids.User.{User}
use Rattle.kin_ids.specs.Users.{same_user, same_tag}
use Rattle.kin_store.specs.Rows.{UserRow, no_row}
use Rattle.kin_store.specs.Changes.{with_row, with_users, kept_in}
use Rattle.kin_store.proofs.Orders.{value-put, user_exact, tag_exact}
use Rattle.kin_store.specs.Blocks.{BlockState, row_in, users_in}

-- a block whose row of u is w, and each other row what it was
module _ (b : BlockState) (rows : List (User × UserRow)) (u : User) (w : Option UserRow)
    (puts : (q : User) → lookup (same_user q) rows ≡ cond (same_user u q) w (lookup (same_user q) b.rows)) where
  pub kept-row : (r : UserRow) → unwrap_or w no_row ≡ r → kept_in (record b { rows = rows }) ≡ with_row (kept_in b) u r
  kept-row r e = λ i. record {
    row = λ q. value-put user_exact b.rows rows u w puts no_row r e q i;
    users = λ t. users_in b t;
  }

-- the same for the users of a tag
module _ (b : BlockState) (tags : List (List ℕ × List User)) (t : List ℕ) (w : Option (List User))
    (puts : (q : List ℕ) → lookup (same_tag q) tags ≡ cond (same_tag t q) w (lookup (same_tag q) b.tags)) where
  pub kept-users : (us : List User) → unwrap_or w [] ≡ us → kept_in (record b { tags = tags }) ≡ with_users (kept_in b) t us
  kept-users us e = λ i. record {
    row = λ u. row_in b u;
    users = λ q. value-put tag_exact b.tags tags t w puts [] us e q i;
  }

pub row-found : (b : BlockState) (u : User) (r : UserRow) → Some r ≡ lookup (same_user u) b.rows → row_in b u ≡ r
row-found b u r e = ap (λ o. unwrap_or o no_row) (sym e)

pub row-none : (b : BlockState) (u : User) → None ≡ lookup (same_user u) b.rows → row_in b u ≡ no_row
row-none b u e = ap (λ o. unwrap_or o no_row) (sym e)

pub users-found : (b : BlockState) (t : List ℕ) (us : List User) → Some us ≡ lookup (same_tag t) b.tags → users_in b t ≡ us
users-found b t us e = ap (λ o. unwrap_or o []) (sym e)

pub users-none : (b : BlockState) (t : List ℕ) → None ≡ lookup (same_tag t) b.tags → users_in b t ≡ []
users-none b t e = ap (λ o. unwrap_or o []) (sym e)
