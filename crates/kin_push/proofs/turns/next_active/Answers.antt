use Rattle.std.proofs.Common.{sym}
use Rattle.kin_push.proofs.States.{stands-active}
use Rattle.kin_push.proofs.turns.next_active.Goals as goal

pub returns-then-is_active-clause-some : goal.returns-then-is_active-clause-some
returns-then-is_active-clause-some c values = sym (c.if-is_active.ensures values)

pub returns-clause-some : goal.returns-clause-some
returns-clause-some c values =
    stands-active c.args.users.now values c.args.active.now c.in_ok-first.first (record { 0 = 0 }) c.requires.ascend c.requires.marked
    c.in_ok-first.ensures.some.0 c.in_ok-first.ensures.some.1
