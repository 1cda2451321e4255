use Rattle.std.proofs.Common.{length}
use Rattle.kin_rules.proofs.ColumnReads.{column-long, long-set, set-column, same-set, on-err}
use Rattle.kin_rules.proofs.columns.set_value.Goals as goal

pub set-requires-clause-users : goal.set-requires-clause-users
set-requires-clause-users c = column-long c.args.columns.now (length c.args.users.now) c.args.i c.index-columns-i.result c.requires.users c.requires.column

pub returns-clause-set : goal.returns-clause-set
returns-clause-set c =
    set-column c.args.users.now c.args.columns.now c.args.i c.set.new.self c.index-columns-i.result c.args.u c.args.value c.requires.column c.in_ok-set.ensures.set

pub returns-clause-users : goal.returns-clause-users
returns-clause-users c = long-set c.args.columns.now (length c.args.users.now) c.args.i c.set.new.self c.requires.users c.in_ok-set.ensures.users

pub returns-in_err-set-clause-users : goal.returns-in_err-set-clause-users
returns-in_err-set-clause-users c = long-set c.args.columns.now (length c.args.users.now) c.args.i c.set.new.self c.requires.users c.in_err-set.ensures.users

pub returns-in_err-set-clause-err : goal.returns-in_err-set-clause-err
returns-in_err-set-clause-err c = on-err c.from_residual.result _ (same-set c.args.columns.now c.args.i c.set.new.self c.index-columns-i.result c.in_err-set.ensures.err)
