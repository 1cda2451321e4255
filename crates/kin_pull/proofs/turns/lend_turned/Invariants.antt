use Rattle.std.proofs.Common.{◌≡◌, map, take}
use Rattle.kin_rules.specs.declared.pull_rules.Facts.{Facts}
use Rattle.kin_rules.specs.Layers.{lent}
use Rattle.kin_pull.specs.TurnSteps.{turned_input}
use Rattle.kin_pull.proofs.turns.lend_turned.Given as goal

-- so far
abbrev pub invariant-loop-end : goal.invariant-loop-end
invariant-loop-end g l = (df : Facts) → lent l.inputs.items ≡ map (turned_input df l.first l.kept l.column l.fn.i l.fn.layer)
    (take l.end-index l.ends)
