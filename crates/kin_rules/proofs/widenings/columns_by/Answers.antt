use Rattle.std.proofs.Common.{◌<◌, ◌∙◌, ap, length, arith}
use Rattle.kin_rules.specs.declared.columns.Column.{Column}
use Rattle.kin_rules.proofs.ColumnReads.{column-long}
use Rattle.kin_rules.proofs.widenings.columns_by.Goals as goal

pub column_by-requires-clause-users : goal.column_by-requires-clause-users
column_by-requires-clause-users c =
    let test = c.loop-column-test.true in
    let lt : c.loop-column.column-index < length c.args.columns.now = omega (arith, test) in
    ap (λ (k : Column). length k.values.items) c.column-item.is
    ∙ column-long c.args.columns.now (length c.args.old.now) c.loop-column.column-index c.column-item.result c.requires.users lt
