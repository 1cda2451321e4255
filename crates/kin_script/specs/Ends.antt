-- How the reading of a schedule ends.
use Rattle.std.specs.Prelude.{ℕ, ◌≡◌, ◌<◌, ◌≤◌, ◌⊎◌, true, false, List, [], ◌∷◌, ◌++◌, Result, Ok, Err}
use Rattle.kin_script.specs.declared.events.Event.{Event}
use Rattle.kin_script.specs.declared.events.Line.{Line}
use Rattle.kin_script.specs.declared.schedules.ScriptFault.{ScriptFault}
use Rattle.kin_script.specs.declared.schedules.ScriptFault.TheVariants as fault
use Rattle.kin_script.specs.Schedules.{Text, event_text, is_silent, IsInRange, IsInLanguage}

-- the fact, where the fault is that of a line
abbrev pub IfLine : (ℕ → Type 0) → ScriptFault → Type 0
IfLine Fact (fault.Line n) = Fact n
IfLine Fact _ = Unit {0}

abbrev pub IsNotTooLong : ScriptFault → Type 0
IsNotTooLong fault.TooLong = ⊥
IsNotTooLong _ = Unit {0}

-- too many lines come exactly where there are more than 1048576, but for want of memory
abbrev pub IsWithinLimit : {X : Type 0} → ℕ → Result X ScriptFault → Type 0
IsWithinLimit count (Ok script) = count ≤ 1048576
IsWithinLimit count (Err (fault.Line n)) = count ≤ 1048576
IsWithinLimit count (Err fault.TooLong) = 1048576 < count
IsWithinLimit count (Err fault.Memory) = Unit {0}

-- a silent line adds nothing, and every other one the event in range whose text it is
abbrev pub TakesLine : ℕ → ℕ → ℕ → Text → List Line → List Line → Type 0
TakesLine nodes parts number line before after =
    ((is_silent line ≡ true) × (after ≡ before))
    ⊎ ((e : Event) × (is_silent line ≡ false) × IsInRange nodes parts e × (event_text e ≡ line) × (after ≡ before ++ record { number = number; event = e } ∷ []))

-- the fault of a line has its number, and the line is outside the language
abbrev pub FailsAt : ℕ → ℕ → ℕ → Text → ScriptFault → Type 0
FailsAt nodes parts number line (fault.Line n) = (n ≡ number) × (IsInLanguage nodes parts line → ⊥)
FailsAt nodes parts number line fault.TooLong = ⊥
FailsAt nodes parts number line fault.Memory = Unit {0}
