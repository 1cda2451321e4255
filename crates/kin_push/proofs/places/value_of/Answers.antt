use Rattle.std.proofs.Common.{None, refl, sym}
use Rattle.kin_rules.proofs.ColumnReads.{past-none}
use Rattle.kin_push.proofs.places.value_of.Goals as goal

pub returns-in-None : goal.returns-in-None
returns-in-None c marks = sym (past-none c.args.users.now c.args.values.now c.args.u None c.requires.valued (c.in-None.ensures.none refl))
