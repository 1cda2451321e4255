-- A world that takes events in turn.
use Rattle.std.specs.Prelude.{ℕ, ◌≡◌, ◌⊎◌, ◌∷◌, List, take}
use Rattle.kin_script.specs.declared.events.Event.{Event}
use Rattle.kin_script.specs.declared.events.Event.TheVariants as event
use Rattle.kin_script.specs.declared.outcomes.Outcome.{Outcome}
use Rattle.kin_history.specs.Setting.{Setting, after}
use Rattle.kin_history.specs.Outcomes.{outcomes}
use Rattle.kin_world.specs.Worlds.{WorldView}
use Rattle.kin_world.specs.Stands.{Stands}

-- These are the answers to the events, and the world stands for each history that it stood for, with the events.
abbrev pub Runs : WorldView → List Event → List Outcome → WorldView → Type 0
Runs old events told new = (set : Setting) (h : List Event) → Stands set old h → (told ≡ outcomes set h events) × Stands set new (after h events)

-- it took some first ones of the events, and may have begun the next epoch besides
abbrev pub RunsInPart : WorldView → List Event → WorldView → Type 0
RunsInPart old events new = (n : ℕ) × ((set : Setting) (h : List Event) → Stands set old h →
    Stands set new (after h (take n events)) ⊎ Stands set new (event.Begin ∷ after h (take n events)))
