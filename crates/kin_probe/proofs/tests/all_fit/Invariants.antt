use Rattle.std.proofs.Common.{ℕ, ◌<◌, get_or}
use Rattle.kin_script.specs.declared.events.Event.{Event}
use Rattle.kin_history.specs.Setting.{IsEvent}
use Rattle.kin_world.specs.Worlds.{setting_of}
use Rattle.kin_probe.proofs.tests.all_fit.Given as goal

-- so far
abbrev pub invariant-loop-event : goal.invariant-loop-event
invariant-loop-event l = (k : ℕ) (d : Event) → k < l.event-index → IsEvent (setting_of l.world) (get_or l.events k d)
