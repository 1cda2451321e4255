-- A user that is searched for.
use Rattle.std.proofs.Common.{◌≡◌, ◌<◌, ◌∙◌, length, IfSome, ℕ, Bool, cond, List, Option, Some, None, Result, Ok, Err, sym, ap}
use Rattle.std.specs.Result.{result_ok}
use Rattle.kin_ids.specs.declared.ids.User.{User}
use Rattle.kin_ids.specs.Users.{user_cmp}
use Rattle.kin_rules.specs.Places.{place, found}
use Rattle.kin_rules.specs.Spots.{IsSpot}
use Rattle.kin_rules.proofs.ColumnReads.{place-at}

pub found-by : (us : List User) (u : User) (r : Result ℕ ℕ) (o : Option ℕ) → o ≡ result_ok r → IsSpot user_cmp us u r → o ≡ found us u
found-by us u (Ok i) o is at = is ∙ (ap Some (sym (place-at us u i at)) ∙ ap (λ (b : Bool). cond b (Some (place us u)) None) (sym at.one))
found-by us u (Err i) o is away = is ∙ ap (λ (b : Bool). cond b (Some (place us u)) None) (sym away.none)

pub found-within : (us : List User) (u : User) (r : Result ℕ ℕ) (o : Option ℕ) → o ≡ result_ok r → IsSpot user_cmp us u r
    → IfSome o (λ i. i < length us)
found-within us u (Ok i) o is at = rw is at.within
found-within us u (Err i) o is away = rw is tt
