-- Laws of commits, of mining and of the drain, after every history.
use Rattle.std.specs.Prelude.{ℕ, ◌≡◌, ◌<◌, ◌≤◌, ◌+◌, true, All, List, [], ◌∷◌, Option, Some, None}
use Rattle.kin_script.specs.declared.events.Event.{Event}
use Rattle.kin_history.specs.Setting.{Setting, IsEvent, IsHistory, after}
use Rattle.kin_history.specs.Vectors.{cuts, committed}
use Rattle.kin_history.specs.Mining.{mined, is_open}
use Rattle.kin_history.specs.Outcomes.{outcome_of, outcomes}
use Rattle.kin_history.specs.Drain.{drain, next_of_drain}
use Rattle.kin_history.specs.Laws.{IsAccepted}

-- No more epochs are committed or mined than are cut, and none is mined that a partition hasn't committed. An open epoch follows the
-- mined ones, is cut and is committed by every partition.
pub record IsMinedInOrder (set : Setting) (h : List Event) : Type 0 where
  pub within : (p : ℕ) → committed set h p ≤ cuts set h
  pub cut : mined set h ≤ cuts set h
  pub done : (p : ℕ) → p < set.parts → mined set h ≤ committed set h p
  pub begun_cut : is_open set h ≡ true → mined set h + 1 ≤ cuts set h
  pub begun : (p : ℕ) → p < set.parts → is_open set h ≡ true → mined set h + 1 ≤ committed set h p

abbrev pub MiningLaw : Type 0
MiningLaw = (set : Setting) (h : List Event) → IsMinedInOrder set h

-- What the drain does after a history is its next event and then what it does after that, until none is left.
abbrev pub drain_by : Setting → List Event → Option Event → List Event
drain_by set h None = []
drain_by set h (Some e) = e ∷ drain set (e ∷ h)

-- each of its events is in range and accepted
abbrev pub IsNextOfDrain : Setting → List Event → Option Event → Type 0
IsNextOfDrain set h None = Unit {0}
IsNextOfDrain set h (Some e) = IsEvent set e × IsAccepted (outcome_of set h e)

-- the drain is what repeating its next event gives
pub record IsDrain (set : Setting) (h : List Event) : Type 0 where
  pub is : drain set h ≡ drain_by set h (next_of_drain set h)
  pub next : IsNextOfDrain set h (next_of_drain set h)

abbrev pub DrainLaw : Type 0
DrainLaw = (set : Setting) (h : List Event) → IsDrain set h

-- The drain leaves every cut epoch committed by every partition and mined. It cuts none itself, and each of its events is accepted.
pub record IsDrained (set : Setting) (h : List Event) : Type 0 where
  pub no_cut : cuts set (after h (drain set h)) ≡ cuts set h
  pub each : (p : ℕ) → p < set.parts → committed set (after h (drain set h)) p ≡ cuts set h
  pub all : mined set (after h (drain set h)) ≡ cuts set h
  pub accepted : All IsAccepted (outcomes set h (drain set h))
  pub legal : IsHistory set h → IsHistory set (after h (drain set h))

abbrev pub DrainedLaw : Type 0
DrainedLaw = (set : Setting) (h : List Event) → IsDrained set h
