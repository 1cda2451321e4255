use Rattle.std.proofs.Common.{refl}
use Rattle.std.specs.Fmt.{digits}
use Rattle.kin_rules.specs.Costs.{least_cost}
use Rattle.kin_report.proofs.rows.rows_on_orders.Goals as goal

pub returns : goal.returns
unfolding digits least_cost
returns c = record { node_order = refl; node_order_swapped = refl; cut_fairly = refl }
