use Rattle.std.proofs.Common.{◌≡◌, replicate}
use Rattle.kin_table.specs.Tables.{no_report}
use Rattle.kin_table.proofs.tables.Table.new.Given as goal

abbrev pub invariant-loop-part : goal.invariant-loop-part
invariant-loop-part l = l.rows.items ≡ replicate l._part (no_report l.nodes)
