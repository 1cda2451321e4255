use Rattle.std.proofs.Common.{◌<◌, ◌∙◌, length, None, arith}
use Rattle.std.proofs.lemmas.List.{get_or_default}
use Rattle.kin_rules.specs.Columns.{column_of}
use Rattle.kin_rules.proofs.ColumnReads.{value-there}
use Rattle.kin_rules.proofs.columns.Column.value.Goals as goal

pub returns-in-Ok : goal.returns-in-Ok
returns-in-Ok c =
    let within = c.in-Ok.ensures.within in
    let lt : c.in-Ok.at < length c.args.self.now.values.items = omega (arith, within) in
    c.index.ensures ∙ get_or_default c.args.self.now.values.items c.in-Ok.at c.index.result.now None lt
    ∙ value-there c.args.users.now (column_of c.args.self.now) c.args.u c.in-Ok.at c.in-Ok.ensures
