use Rattle.std.proofs.Common.{false, refl, sym}
use Rattle.kin_rules.proofs.ColumnReads.{past-none}
use Rattle.kin_push.proofs.places.is_active.Goals as goal

pub returns-in-None : goal.returns-in-None
returns-in-None c values = sym (past-none c.args.users.now c.args.active.now c.args.u false c.requires.marked (c.in-None.ensures.none refl))
