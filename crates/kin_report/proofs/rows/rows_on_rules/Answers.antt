use Rattle.std.proofs.Common.{refl}
use Rattle.std.specs.Fmt.{digits}
use Rattle.kin_rules.specs.Costs.{least_cost}
use Rattle.kin_report.proofs.rows.rows_on_rules.Goals as goal

pub returns : goal.returns
unfolding digits least_cost
returns c = record { at_the_limits = refl; exposed = refl; ranked = refl; bad_among = refl; bad_alone = refl }
