use Rattle.std.proofs.Common.{◌∙◌, sym}
use Rattle.kin_pull.proofs.Plans.{mark-there}
use Rattle.kin_pull.proofs.deltas.mark.Goals as goal

pub returns-in-Some-clause-marks : goal.returns-in-Some-clause-marks
returns-in-Some-clause-marks c = λ x there. mark-there c.args.users.now c.args.marks.now.items c.args.u c.in-Some.i c.requires.long
    (sym c.find.ensures.found ∙ c.in-Some.is) x
