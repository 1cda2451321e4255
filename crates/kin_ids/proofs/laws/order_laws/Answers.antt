use Rattle.kin_ids.proofs.Joins.{between-ends-law, within-law}
use Rattle.kin_ids.proofs.Orders.{order-law}
use Rattle.kin_ids.proofs.laws.order_laws.Goals as goal

pub returns : goal.returns
returns c = record { order = order-law; line = between-ends-law; within = within-law }
