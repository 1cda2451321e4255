-- How far rounds of offers have come.
use Rattle.std.specs.Prelude.{◌≡◌, ◌+◌, ◌==◌, ℕ, zero, suc, Bool, true, List, [], Option, Some, length}
use Rattle.std.specs.List.{list_any}
use Rattle.kin_ids.specs.declared.ids.User.{User}
use Rattle.kin_rules.specs.Walks.{Net}
use Rattle.kin_rules.specs.Places.{place}
use Rattle.kin_rules.specs.Spreads.{IsSpread}
use Rattle.kin_rules.specs.Rounds.{Tally, value_at}

-- whether a place is among these
abbrev pub has_place : List ℕ → ℕ → Bool
has_place ps p = list_any (λ q. p == q) ps

-- the value of a user
abbrev pub value_of : List User → Tally → User → Option ℕ
value_of us t x = value_at t (place us x)

-- those whose cost lies so far ahead
abbrev pub list_at : Tally → ℕ → List ℕ
list_at t zero = t.one
list_at t (suc zero) = t.two
list_at t (suc (suc zero)) = t.three
list_at t (suc (suc (suc d))) = []

-- the user's value is at least c, and it stands in the list of its value
abbrev pub IsListed : List User → ℕ → Tally → User → Type 0
IsListed us c t x = (d : ℕ) × (value_of us t x ≡ Some (c + d)) × (has_place (list_at t d) (place us x) ≡ true)

-- Between rounds: who isn't at rest is listed, and has at least the cost c.
pub record Going (net : Net) (us : List User) (c : ℕ) (t : Tally) : Type 0 where
  pub fits : length t.values ≡ length us
  pub spread : IsSpread net (value_of us t) (IsListed us c t)
