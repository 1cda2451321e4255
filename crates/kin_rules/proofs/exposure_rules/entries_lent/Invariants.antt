use Rattle.std.proofs.Common.{◌≡◌, take, map}
use Rattle.kin_rules.specs.Layers.{lent}
use Rattle.kin_rules.specs.ExposureRule.{use_k}
use Rattle.kin_rules.proofs.exposure_rules.entries_lent.Given as goal

-- the uses so far have their entries
abbrev pub invariant-loop-item : goal.invariant-loop-item
invariant-loop-item l = l.entries.items ≡ map (use_k (lent l.inputs)) (take l.item-index l.own.uses)
