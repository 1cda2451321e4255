use Rattle.std.proofs.Common.{length, ◌∙◌, ap}
use Rattle.kin_rules.specs.declared.columns.Column.{Column}
use Rattle.kin_rules.proofs.ColumnReads.{column-long}
use Rattle.kin_rules.proofs.columns.value_at.Goals as goal

pub value-requires-clause-users : goal.value-requires-clause-users
value-requires-clause-users c =
    ap (λ (k : Column). length k.values.items) c.index-columns-i.is
    ∙ column-long c.args.columns.now (length c.args.users.now) c.args.i c.index-columns-i.result c.requires.users c.if-i-columns.true
