use Rattle.std.proofs.Common.{sym}
use Rattle.kin_rules.proofs.ColumnReads.{place-at}
use Rattle.kin_rules.proofs.Places.{place-absent}
use Rattle.kin_rules.proofs.widenings.place_of.Goals as goal

pub returns-in-Ok : goal.returns-in-Ok
returns-in-Ok c = sym (place-at c.args.users.now c.args.u c.in-Ok.at c.in-Ok.ensures)

pub returns-in-Err : goal.returns-in-Err
returns-in-Err c = sym (place-absent c.args.users.now c.args.u c.in-Err.ensures.none)
