use Rattle.std.proofs.Common.{◌≡◌, take}
use Rattle.kin_rules.specs.Layers.{lent}
use Rattle.kin_rules.proofs.pull_rules.PullRule.next_lent.Given as goal

-- the inputs so far are copied
abbrev pub invariant-loop-input : goal.invariant-loop-input
invariant-loop-input g l = l.copies.items ≡ lent (take l.input-index l.inputs)
