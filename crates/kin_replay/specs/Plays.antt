-- A world that takes the events of a run in turn, while what they print is written.
use Rattle.std.specs.Prelude.{ℕ, ◌≡◌, ◌≤◌, ◌⊎◌, Bool, true, List, [], ◌∷◌, ◌++◌, Option, length, take}
use Rattle.kin_ids.specs.declared.options.OptionWords.{OptionWords}
use Rattle.kin_script.specs.declared.events.Event.{Event}
use Rattle.kin_script.specs.declared.events.Event.TheVariants as event
use Rattle.kin_script.specs.declared.events.Line.{Line}
use Rattle.kin_script.specs.declared.outcomes.Outcome.{Outcome}
use Rattle.kin_io.specs.Outside.{Grew, GrewBySome, flushed_after}
use Rattle.kin_history.specs.Setting.{Setting, IsHistory, after}
use Rattle.kin_history.specs.Drain.{drain}
use Rattle.kin_report.specs.Report.{Ran, events_of, drained, whole_run, traced, mined_block, printed, block_after}
use Rattle.kin_world.specs.Worlds.{WorldView}
use Rattle.kin_world.specs.Stands.{Stands}

-- a world, and the bytes that a sink took
pub record Scene : Type 0 where
  pub world : WorldView
  pub taken : Option (List ℕ)

abbrev pub scene : WorldView → Option (List ℕ) → Scene
scene world taken = record { world = world; taken = taken }

-- one event as a run, with the number of its line where it has one
abbrev pub ran : Option ℕ → Event → List Ran
ran number event = record { number = number; event = event } ∷ []

-- the second history goes on from the first
pub record IsLater (set : Setting) (was now : List Event) : Type 0 where
  pub more : List Event
  pub goes_on : now ≡ after was more
  pub legal : IsHistory set now

-- what an answer prints, with the blocks of a history
abbrev pub shown_answer : Setting → OptionWords → Bool → List Event → Option ℕ → Outcome → List ℕ
shown_answer set options trace whole number told = traced trace number told ++ mined_block (block_after set options whole) told

-- what these print after h, with the blocks of the history `whole`
abbrev pub shown : Setting → OptionWords → Bool → List Event → List Event → List Ran → List ℕ
shown set options trace whole h run = printed set trace (block_after set options whole) h run

-- the world stands for h with these events, and they were printed
pub record HasPlayed (set : Setting) (options : OptionWords) (trace : Bool) (whole h : List Event) (run : List Ran) (old new : Scene) : Type 0 where
  pub stands : Stands set new.world (after h (events_of run))
  pub grew : Grew old.taken new.taken (shown set options trace whole h run)

-- These were played: for each history that the world stood for, and whatever comes after.
abbrev pub Plays : OptionWords → Bool → List Ran → Scene → Scene → Type 0
Plays options trace run old new = (set : Setting) (h whole : List Event) → Stands set old.world h → IsLater set (after h (events_of run)) whole
    → HasPlayed set options trace whole h run old new

-- where a run that stopped left a world: at a history, and for want of memory perhaps at that history with a Begin
abbrev pub StandsNear : Bool → Setting → WorldView → List Event → Type 0
StandsNear starved set w h = Stands set w h ⊎ ((starved ≡ true) × Stands set w (event.Begin ∷ h))

-- the world stands near h with a front of these events, and a prefix of what all of them print was written
pub record HasPlayedFront (starved : Bool) (set : Setting) (options : OptionWords) (trace : Bool) (whole h : List Event) (run : List Ran) (old new : Scene) : Type 0 where
  pub count : ℕ
  pub within : count ≤ length run
  pub stands : StandsNear starved set new.world (after h (events_of (take count run)))
  pub grew : GrewBySome old.taken new.taken (shown set options trace whole h run)

-- A front of these was played; it stopped for want of memory, or else because the sink failed.
abbrev pub PlaysFront : Bool → OptionWords → Bool → List Ran → Scene → Scene → Type 0
PlaysFront starved options trace run old new = (set : Setting) (h whole : List Event) → Stands set old.world h → IsLater set (after h (events_of run)) whole
    → HasPlayedFront starved set options trace whole h run old new

-- the drain of a history, as a run
abbrev pub drain_of : Setting → List Event → List Ran
drain_of set h = drained (drain set h)

-- the drain of each history that the world stood for was played, and a front of it
abbrev pub PlaysDrain : OptionWords → Bool → Scene → Scene → Type 0
PlaysDrain options trace old new = (set : Setting) (h whole : List Event) → Stands set old.world h → IsLater set (after h (events_of (drain_of set h))) whole
    → HasPlayed set options trace whole h (drain_of set h) old new

abbrev pub PlaysDrainFront : Bool → OptionWords → Bool → Scene → Scene → Type 0
PlaysDrainFront starved options trace old new = (set : Setting) (h whole : List Event) → Stands set old.world h → IsLater set (after h (events_of (drain_of set h))) whole
    → HasPlayedFront starved set options trace whole h (drain_of set h) old new

-- the schedule of these lines and its drain, after nothing
abbrev pub PlaysWhole : OptionWords → Bool → List Line → Scene → Scene → Type 0
PlaysWhole options trace lines old new = (set : Setting) (whole : List Event) → Stands set old.world [] → IsLater set (after [] (events_of (whole_run set lines))) whole
    → HasPlayed set options trace whole [] (whole_run set lines) old new

abbrev pub PlaysWholeFront : Bool → OptionWords → Bool → List Line → Scene → Scene → Type 0
PlaysWholeFront starved options trace lines old new = (set : Setting) (whole : List Event) → Stands set old.world [] → IsLater set (after [] (events_of (whole_run set lines))) whole
    → HasPlayedFront starved set options trace whole [] (whole_run set lines) old new

-- whether all is flushed once some more bytes were taken, or none
abbrev pub MayUnflush : Option Bool → Option Bool → Type 0
MayUnflush was now = (n : ℕ) × (now ≡ flushed_after n was)
