-- Values that are kept while some users have yet to offer theirs.
use Rattle.std.specs.Prelude.{◌≡◌, ◌⊎◌, ℕ, Bool, false, Option, Some, true}
use Rattle.kin_ids.specs.declared.ids.User.{User}
use Rattle.kin_ids.specs.Users.{same_user}
use Rattle.kin_rules.specs.declared.kinds.EdgeKind.{EdgeKind}
use Rattle.kin_rules.specs.Walks.{Net, AtMost, IsEdge, IsWhole, IsRule}
use Rattle.kin_rules.specs.Costs.{least_cost}
use Rattle.kin_rules.specs.Kept.{AreKept, IsAtRest, HasStart, lowered}

-- each value is the cost of a walk, the landmark has 0, and who isn't at rest waits
pub record IsSpread (net : Net) (f : User → Option ℕ) (Waits : User → Type 0) : Type 0 where
  pub kept : AreKept net f
  pub start : HasStart net f
  pub rest : (w : User) → IsAtRest net f w ⊎ Waits w

-- the same, where a test tells who waits, as of an engine's active users
abbrev pub IsActing : Net → (User → Option ℕ) → (User → Bool) → Type 0
IsActing net f active = IsSpread net f (λ w. active w ≡ true)

-- where nobody waits the values are the least costs, and who has none has no walk
abbrev pub QuietIsLeast : Type 0
QuietIsLeast = (net : Net) (f : User → Option ℕ) (active : User → Bool)
    → IsRule net.along net.most → IsWhole net → IsActing net f active
    → ((w : User) → active w ≡ false) → (u : User) → f u ≡ least_cost net u

-- the end of an edge takes a lesser offer: it waits from here on, as all others do who waited
abbrev pub OfferSpreads : Type 0
OfferSpreads = (net : Net) (f : User → Option ℕ) (active next : User → Bool) (k : EdgeKind) (w u : User) (n m : ℕ)
    → IsRule net.along net.most → IsWhole net
    → IsActing net f active → IsEdge net k w u → f w ≡ Some n → net.along k n ≡ Some m → (AtMost (f u) m → ⊥)
    → ((x : User) → active x ≡ true → next x ≡ true) → next u ≡ true → IsActing net (lowered f u m) next

-- who has come to rest waits no longer
abbrev pub RestSpreads : Type 0
RestSpreads = (net : Net) (f : User → Option ℕ) (active next : User → Bool) (w : User)
    → IsActing net f active → IsAtRest net f w
    → ((x : User) → same_user w x ≡ false → active x ≡ true → next x ≡ true) → IsActing net f next
