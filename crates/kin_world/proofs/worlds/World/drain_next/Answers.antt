use Rattle.std.proofs.Common.{◌∙◌, sym, ap}
use Rattle.kin_history.specs.MiningLaws.{drain_by}
use Rattle.kin_history.proofs.Drained.{drain-is}
use Rattle.kin_world.proofs.Epochs.{next-drains}
use Rattle.kin_world.proofs.worlds.World.drain_next.Goals as goal

pub returns-clause-next : goal.returns-clause-next
returns-clause-next c set h s = c.drain_next.ensures ∙ next-drains set c.self.inside.core h (rw c.self.view_is s)

pub returns-clause-drain : goal.returns-clause-drain
returns-clause-drain c set h s = (drain-is set h).is ∙ ap (drain_by set h) (sym (c.drain_next.ensures ∙ next-drains set c.self.inside.core h (rw c.self.view_is s)))
