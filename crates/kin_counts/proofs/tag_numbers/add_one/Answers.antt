use Rattle.kin_counts.proofs.Placing.{placed-at, placed-none}
use Rattle.kin_counts.proofs.tag_numbers.add_one.Goals as goal

pub returns-in-Ok : goal.returns-in-Ok
returns-in-Ok c = λ f e. placed-at c.args.tags.now f c.args.t c.args.numbers.now e c.requires.ascend c.in-Ok.at c.in-Ok.ensures
    c.saturating_add.result c.saturating_add.ensures

pub returns-in_default : goal.returns-in_default
returns-in_default c = λ f e. placed-none c.args.tags.now f c.args.t c.args.numbers.now e c.in_default.ensures.none
