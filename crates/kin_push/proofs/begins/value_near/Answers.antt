use Rattle.std.proofs.Common.{sym}
use Rattle.kin_push.proofs.States.{near}
use Rattle.kin_push.proofs.begins.value_near.Goals as goal

pub returns-then-eq : goal.returns-then-eq
returns-then-eq c marks = near c.args.users.now c.args.values.now c.args.u c.args.place (record { 0 = 0 }) c.requires.ascend
    c.if-place-users.true (sym c.if-eq.ensures)
