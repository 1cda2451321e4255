use Rattle.std.proofs.Common.{◌≡◌, drop}
use Rattle.kin_ids.specs.Lines.{stamps_of, upto}
use Rattle.kin_hub.specs.Fronts.{common_with, common_of}
use Rattle.kin_hub.specs.Cores.{past_in}
use Rattle.kin_hub.proofs.runs.shared_end.Given as goal

-- what the run has in common with the chains that are left is what all have
abbrev pub invariant-loop-held : goal.invariant-loop-held
invariant-loop-held l =
    common_with (stamps_of l.run) (past_in (drop l.held-index l.held-items) l.at l.i.0) ≡ upto l.to (common_of (past_in l.helds l.at l.i.0))
