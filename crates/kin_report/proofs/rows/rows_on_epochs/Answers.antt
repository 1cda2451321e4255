use Rattle.std.proofs.Common.{refl}
use Rattle.std.specs.Fmt.{digits}
use Rattle.kin_rules.specs.Costs.{least_cost}
use Rattle.kin_report.proofs.rows.rows_on_epochs.Goals as goal

pub returns : goal.returns
unfolding digits least_cost
returns c = record { first_run = refl; first_ins = refl; never_reported = refl; half_delivered = refl; half_reported = refl; agreed_later = refl; removed_later = refl }
