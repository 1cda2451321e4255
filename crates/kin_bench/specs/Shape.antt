-- A world of three nodes and four partitions, and the events that fit every such world.
use Rattle.std.specs.Prelude.{◌≡◌, length}
use Rattle.kin_script.specs.declared.events.Event.{Event}
use Rattle.kin_history.specs.Setting.{Setting, IsEvent, nodes}
use Rattle.kin_world.specs.Worlds.{WorldView}

pub record HasShape (w : WorldView) : Type 0 where
  pub nodes : length w.feeds ≡ 3
  pub parts : w.parts ≡ 4

abbrev pub FitsShape : Event → Type 0
FitsShape e = (set : Setting) → nodes set ≡ 3 → set.parts ≡ 4 → IsEvent set e
