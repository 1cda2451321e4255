use Rattle.std.proofs.Common.{refl}
use Rattle.std.specs.Fmt.{digits}
use Rattle.kin_rules.specs.Costs.{least_cost}
use Rattle.kin_report.proofs.rows.rows_on_tops.Goals as goal

pub returns : goal.returns
unfolding digits least_cost
returns c = record { none = refl; one = refl; two = refl; tag_twice = refl }
