use Rattle.kin_history.proofs.Ordered.{of-lines, settled}
use Rattle.kin_history.proofs.laws.order_laws.Goals as goal

pub returns : goal.returns
returns c = record { of_lines = λ set h k some legal le. of-lines set h some legal k le; settled = settled }
