-- Laws of vectors, after every history.
use Rattle.std.specs.Prelude.{ℕ, ◌≡◌, ◌<◌, ◌≤◌, ◌+◌, true, false, List, ◌∷◌}
use Rattle.kin_ids.specs.declared.stamps.Stamp.{Stamp}
use Rattle.kin_ids.specs.Lines.{IsEnd, has, upto}
use Rattle.kin_ids.specs.Order.{within}
use Rattle.kin_script.specs.declared.events.Event.{Event}
use Rattle.kin_history.specs.Setting.{Setting, nodes, IsHistory, after}
use Rattle.kin_history.specs.Lines.{inc, line, base, agreed}
use Rattle.kin_history.specs.Vectors.{cuts, vector}

-- No position of a node falls from vector to vector. Each is 0 or the end of a transaction of its line, and not above the agreed one.
pub record IsCutSound (set : Setting) (h : List Event) (i : ℕ) : Type 0 where
  pub first : vector set h 0 i ≡ 0
  pub step : (k : ℕ) → k < cuts set h → vector set h k i ≤ vector set h (k + 1) i
  pub ends : (k : ℕ) → IsEnd 0 (line set h i) (vector set h k i)
  pub within : (k : ℕ) → vector set h k i ≤ agreed set h i

abbrev pub VectorLaw : Type 0
VectorLaw = (set : Setting) (h : List Event) (i : ℕ) → 0 < set.parts → IsHistory set h → i < nodes set → IsCutSound set h i

-- From one history to a later one no agreed position falls, no vector that there is changes, and neither does what is within one.
pub record KeepsCuts (set : Setting) (was now : List Event) (i : ℕ) : Type 0 where
  pub raised : agreed set was i ≤ agreed set now i
  pub more : cuts set was ≤ cuts set now
  pub kept : (k : ℕ) → k ≤ cuts set was → vector set now k i ≡ vector set was k i
  pub inside : (k : ℕ) → k ≤ cuts set was → upto (vector set was k i) (line set now i) ≡ upto (vector set was k i) (line set was i)

-- with one event, and with any list of later events
abbrev pub KeepLaw : Type 0
KeepLaw = (set : Setting) (h : List Event) (e : Event) (i : ℕ) → 0 < set.parts → IsHistory set (e ∷ h) → i < nodes set → KeepsCuts set h (e ∷ h) i

abbrev pub KeepLaterLaw : Type 0
KeepLaterLaw = (set : Setting) (h es : List Event) (i : ℕ) → 0 < set.parts → IsHistory set (after h es) → i < nodes set → KeepsCuts set h (after h es) i

-- A transaction within a vector whose incarnation has ended ends at or before that incarnation's seal, the base of the next one.
abbrev pub SealedLaw : Type 0
SealedLaw = (set : Setting) (h : List Event) (i k : ℕ) (s : Stamp) → 0 < set.parts → IsHistory set h →
    has (within (line set h) (vector set h) k i) s ≡ true → s.inc.0 < inc set h i → s.to ≤ base set h i (s.inc.0 + 1)

-- So what an ended incarnation stamped past its seal is within no vector, whatever comes later.
abbrev pub NeverWithinLaw : Type 0
NeverWithinLaw = (set : Setting) (h es : List Event) (i k : ℕ) (s : Stamp) → 0 < set.parts → IsHistory set (after h es) →
    s.inc.0 < inc set h i → base set h i (s.inc.0 + 1) < s.to → has (within (line set (after h es)) (vector set (after h es)) k i) s ≡ false
