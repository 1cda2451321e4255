use Rattle.std.proofs.Common.{ap, sym, get_or}
use Rattle.kin_rules.proofs.ColumnReads.{place-at, past-none}
use Rattle.kin_rules.proofs.columns.number_at.Goals as goal

pub returns-in-Ok : goal.returns-in-Ok
returns-in-Ok c = ap (λ n. get_or c.args.numbers.now n 0) (sym (place-at c.args.users.now c.args.u c.in-Ok.at c.in-Ok.ensures))

pub returns-in-Err : goal.returns-in-Err
returns-in-Err c = sym (past-none c.args.users.now c.args.numbers.now c.args.u 0 c.requires.length c.in-Err.ensures.none)
