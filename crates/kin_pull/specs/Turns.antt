-- What turns do.
use Rattle.std.specs.Prelude.{◌≡◌, ◌≢◌, ◌<◌, ◌≤◌, ◌+◌, ◌⊎◌, ℕ, suc, true, false, List, if◌then◌else◌}
use Rattle.kin_ids.specs.declared.ids.User.{User}
use Rattle.kin_ids.specs.Users.{same_user, has_user}
use Rattle.kin_ids.specs.Parts.{PartView}
use Rattle.kin_rules.specs.Layers.{LayerRule, IsLayerRule}
use Rattle.kin_pull.specs.Keeping.{PullNet, Keeping, IsJoined, IsStanding, IsAtRest, shows}
use Rattle.kin_pull.specs.Settles.{reads_on}
use Rattle.kin_pull.specs.States.{KeptView, is_active, opposite}

-- A turn of u: each layer of u is computed again, u has told its facts of now and is active no longer. Others keep their layers, and
-- whoever
-- isn't active afterwards wasn't before and reads nothing of u that shows.
pub record IsTurn {V : Type 0} (r : LayerRule V) (net : PullNet) (top : ℕ) (u : User) (e new : Keeping V) : Type 0 where
  pub others : (j : ℕ) (x : User) → same_user u x ≡ false → new.layers j x ≡ e.layers j x
  pub first : new.layers 0 u ≡ r.first
  pub own : (j : ℕ) → j < top → IsAtRest r net new.layers j u
  pub tells : new.told u ≡ net.facts u
  pub tell : (x : User) → same_user u x ≡ false → new.told x ≡ e.told x
  pub still : (x : User) → same_user u x ≡ false → new.fresh x ≡ e.fresh x
  pub mixed : new.mixed ≡ true
  pub quiet : (j : ℕ) (x : User) → j < top → same_user u x ≡ false → new.active (suc j) x ≡ false →
      (e.active (suc j) x ≡ false) × ((has_user (net.readers u) x ≡ false) ⊎ (shows r (e.told u) (net.facts u) true (e.layers j u)
      (new.layers j u) ≡ false))

-- By a turn of u only its layers change. Who has yet to tell its facts had before, and isn't u. Who is active at a layer was and isn't u,
-- or it
-- reads u, and either u had yet to tell its facts or a layer of u changed.
pub record IsMoved {V : Type 0} (net : PullNet) (top : ℕ) (u : User) (e new : Keeping V) : Type 0 where
  pub values : (j : ℕ) (x : User) → same_user u x ≡ false → new.layers j x ≡ e.layers j x
  pub fresh : (x : User) → new.fresh x ≡ true → (e.fresh x ≡ true) × (same_user u x ≡ false)
  pub pairs : (j : ℕ) (x : User) → j ≤ top → new.active j x ≡ true → ((e.active j x ≡ true) × (same_user u x ≡ false))
      ⊎ ((has_user (net.readers u) x ≡ true) × ((e.fresh u ≡ true) ⊎ ((i : ℕ) × (i ≤ top) × (new.layers i u ≢ e.layers i u))))

-- each layer of u is that of its inputs
abbrev pub IsRested : {V : Type 0} → LayerRule V → PullNet → ℕ → Keeping V → User → Type 0
IsRested r net top e u = (j : ℕ) → j < top → IsAtRest r net e.layers j u

-- a turn keeps the facts
abbrev pub TurnLaw : Type 0 → Type 0
TurnLaw V = (r : LayerRule V) (net : PullNet) (top : ℕ) (u : User) (e new : Keeping V) → IsLayerRule r → IsJoined net
    → IsStanding r net top e → IsTurn r net top u e new
    → IsStanding r net top new

-- The most that a turn of u reads: once the edges to its inputs and once those to its readers where u is active, and else nothing.
abbrev pub turn_reads : {V : Type 0} → LayerRule V → PartView → List User → KeptView V → User → ℕ
turn_reads r v us k u = if is_active us k u then reads_on r.side v u + reads_on (opposite r.side) v u else 0
