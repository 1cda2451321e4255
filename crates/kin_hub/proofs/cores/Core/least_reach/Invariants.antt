use Rattle.std.proofs.Common.{◌≡◌}
use Rattle.kin_ids.specs.Lines.{least_from}
use Rattle.kin_table.specs.Tables.{reach_of}
use Rattle.kin_hub.proofs.cores.Core.least_reach.Given as goal

abbrev pub invariant-loop-p : goal.invariant-loop-p
invariant-loop-p l = l.least ≡ least_from (reach_of l.self.table 0 l.i.0) l.p (λ p. reach_of l.self.table p l.i.0)
