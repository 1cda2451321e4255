use Rattle.std.proofs.Common.{◌≡◌, ◌+◌, ◌≤◌, take}
use Rattle.kin_hub.specs.Hubs.{cuts_in}
use Rattle.kin_world.specs.Worlds.{setting_of}
use Rattle.kin_world.specs.Runs.{Runs}
use Rattle.kin_world.proofs.runs.run.Given as goal

-- it has told the answers to the events so far, and each of them cut at most one epoch
abbrev pub invariant-loop-event : goal.invariant-loop-event
invariant-loop-event l = record {
  setting : setting_of l.world ≡ setting_of l.fn.world;
  cuts : cuts_in l.world.hub ≤ cuts_in l.fn.world.hub + l.event-index;
  runs : Runs l.fn.world (take l.event-index l.events) l.told.items l.world;
}
