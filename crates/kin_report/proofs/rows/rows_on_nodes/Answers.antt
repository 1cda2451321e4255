use Rattle.std.proofs.Common.{refl}
use Rattle.std.specs.Fmt.{digits}
use Rattle.kin_rules.specs.Costs.{least_cost}
use Rattle.kin_report.proofs.rows.rows_on_nodes.Goals as goal

pub returns : goal.returns
unfolding digits least_cost
returns c = record { unlike = refl; one_raised = refl; early_in_later = refl; stale_later = refl; down_at_the_end = refl }
