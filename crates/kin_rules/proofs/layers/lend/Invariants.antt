use Rattle.std.proofs.Common.{◌≡◌, take, map}
use Rattle.kin_rules.specs.declared.pull_rules.Facts.{Facts}
use Rattle.kin_rules.specs.Layers.{lent}
use Rattle.kin_rules.specs.LayerTables.{input_at}
use Rattle.kin_rules.proofs.layers.lend.Given as goal

-- the inputs so far are lent
abbrev pub invariant-loop-end : goal.invariant-loop-end
invariant-loop-end g l = (df : Facts) (d : g.row.V.Denot) → lent l.inputs.items ≡ map (input_at df d l.facts l.row) (take l.end-index l.ends)
