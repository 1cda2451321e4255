-- A world that is drained.
use Rattle.std.specs.Prelude.{ℕ, ◌≤◌, true, List, length, take}
use Rattle.kin_script.specs.declared.events.Event.{Event}
use Rattle.kin_history.specs.Setting.{Setting, after}
use Rattle.kin_history.specs.Drain.{drain}
use Rattle.kin_world.specs.Worlds.{WorldView}
use Rattle.kin_world.specs.Stands.{Stands}
use Rattle.kin_replay.specs.Plays.{StandsNear}

-- the drain of each history that the world stood for was taken
abbrev pub DrainsWorld : WorldView → WorldView → Type 0
DrainsWorld old new = (set : Setting) (h : List Event) → Stands set old h → Stands set new (after h (drain set h))

-- some first events of it were, and perhaps a Begin besides
abbrev pub DrainsInPart : WorldView → WorldView → Type 0
DrainsInPart old new = (set : Setting) (h : List Event) → Stands set old h
    → (n : ℕ) × (n ≤ length (drain set h)) × StandsNear true set new (after h (take n (drain set h)))
