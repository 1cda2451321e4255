use Rattle.std.proofs.Common.{◌≡◌, map, take}
use Rattle.kin_rules.specs.declared.pull_rules.Facts.{Facts}
use Rattle.kin_rules.specs.Layers.{lent}
use Rattle.kin_pull.specs.Passes.{lent_at}
use Rattle.kin_pull.proofs.passes.lend.Given as goal

-- the inputs so far are lent
abbrev pub invariant-loop-end : goal.invariant-loop-end
invariant-loop-end g l = (df : Facts) → lent l.inputs.items ≡ map (lent_at df l.first l.kept l.fn.layer l.drawn) (take l.end-index l.ends)
