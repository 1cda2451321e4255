use Rattle.std.proofs.Common.{◌<◌, ◌≤◌, ◌∙◌, length, None, arith}
use Rattle.std.proofs.lemmas.List.{get_or_default}
use Rattle.kin_rules.specs.Columns.{column_of}
use Rattle.kin_rules.proofs.WiderResults.{value-within, value-past}
use Rattle.kin_rules.proofs.widenings.value_by.Goals as goal

pub returns-then-at-len : goal.returns-then-at-len
returns-then-at-len c =
    let test = c.if-at-len.true in
    let lt : c.args.at < length c.args.column.now.values.items = omega (arith, test) in
    c.index.ensures ∙ get_or_default c.args.column.now.values.items c.args.at c.index.result.now None lt
    ∙ value-within c.args.old.now (column_of c.args.column.now) c.args.u c.args.at c.requires.users c.requires.place lt

pub returns-else-at-len : goal.returns-else-at-len
returns-else-at-len c =
    let test = c.if-at-len.false in
    let le : length c.args.column.now.values.items ≤ c.args.at = omega (arith, test) in
    c.copied.ensures ∙ c.get.ensures.value ∙ value-past c.args.old.now (column_of c.args.column.now) c.args.u c.args.at c.requires.users c.requires.place le
