-- The facts that an engine keeps, over a state.
use Rattle.std.specs.Prelude.{◌≡◌, ◌≤◌, ◌^◌, nat_lt, ℕ, Bool, true, Option, Some, None, length}
use Rattle.kin_ids.specs.declared.ids.User.{User}
use Rattle.kin_ids.specs.Users.{has_user}
use Rattle.kin_ids.specs.Parts.{PartView}
use Rattle.kin_rules.specs.Walks.{Rule, Net, IsWhole}
use Rattle.kin_rules.specs.Spreads.{IsActing}
use Rattle.kin_push.specs.Potential.{potential}
use Rattle.kin_push.specs.States.{PushState, value_in, is_active, net_in, reads_of}

-- Over a whole net with at most 2^27 users: each value is the cost of a walk, the landmark has 0, and only who is active offers
-- anybody less than it has; and only users are active.
pub record IsOn (net : Net) (f : User → Option ℕ) (active : User → Bool) : Type 0 where
  pub whole : IsWhole net
  pub small : length net.users ≤ 2 ^ 27
  pub acting : IsActing net f active
  pub within : (u : User) → active u ≡ true → has_user net.users u ≡ true

-- the same of a state over a view
abbrev pub On : Rule → PartView → PushState → Type 0
On r v s = IsOn (net_in r v s.users) (value_in s) (is_active s)

-- a value that an offer of m would lower; a user without a value takes any offer
abbrev pub exceeds : Option ℕ → ℕ → Bool
exceeds None m = true
exceeds (Some n) m = nat_lt m n

-- the value fell, a first value counted as a fall
abbrev pub Fell : Option ℕ → Option ℕ → Type 0
Fell o p = (n : ℕ) × (p ≡ Some n) × (exceeds o n ≡ true)

-- what the turns that are still to come may read
abbrev pub to_read : Rule → PartView → PushState → ℕ
to_read r v s = potential (net_in r v s.users) (reads_of r v) (value_in s) (is_active s)

-- how many turns may still come
abbrev pub to_turn : Rule → PartView → PushState → ℕ
to_turn r v s = potential (net_in r v s.users) (λ _. 1) (value_in s) (is_active s)
