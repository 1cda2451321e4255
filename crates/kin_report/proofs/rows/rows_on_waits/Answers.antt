use Rattle.std.proofs.Common.{refl}
use Rattle.std.specs.Fmt.{digits}
use Rattle.kin_rules.specs.Costs.{least_cost}
use Rattle.kin_report.proofs.rows.rows_on_waits.Goals as goal

pub returns : goal.returns
unfolding digits least_cost
returns c = record { not_reported_by_one = refl; one_by_one = refl }
