-- Mining over a history: which epochs were mined, and whether one is open.
use Rattle.std.specs.Prelude.{ℕ, ◌+◌, nat_lt, Bool, true, false, ◌||◌, if◌then◌else◌, List, [], ◌∷◌, Option, Some, None}
use Rattle.kin_script.specs.declared.events.Event.{Event}
use Rattle.kin_script.specs.declared.outcomes.Refusal.{Refusal}
use Rattle.kin_script.specs.declared.events.Event.TheVariants as event
use Rattle.kin_script.specs.declared.outcomes.Refusal.TheVariants as refusal
use Rattle.kin_history.specs.Setting.{Setting}
use Rattle.kin_history.specs.Vectors.{cuts, uncommitted_part}

-- why a partition holds an epoch back
abbrev pub not_committed : Option ℕ → Option Refusal
not_committed None = None
not_committed (Some p) = Some (refusal.NotCommitted (record { 0 = p }))

abbrev pub is_clear : Option Refusal → Bool
is_clear None = true
is_clear (Some r) = false

module _ (set : Setting) where
  -- why epoch k can't be opened, if it can't: it isn't cut, or a partition hasn't committed it
  abbrev pub held_back : List Event → ℕ → Option Refusal
  held_back h k = if nat_lt (cuts set h) k then Some refusal.NothingCut else not_committed (uncommitted_part set h k)

  abbrev mutual
    -- how many epochs were mined
    pub mined : List Event → ℕ
    mined [] = 0
    mined (event.Mine ∷ h) = if is_open h || is_clear (held_back h (mined h + 1)) then mined h + 1 else mined h
    mined (_ ∷ h) = mined h

    -- whether an epoch was begun and not yet mined
    pub is_open : List Event → Bool
    is_open [] = false
    is_open (event.Begin ∷ h) = is_open h || is_clear (held_back h (mined h + 1))
    is_open (event.Mine ∷ h) = false
    is_open (_ ∷ h) = is_open h
