use Rattle.std.proofs.Common.{◌≡◌, ◌^◌, min, take}
use Rattle.std.specs.List.{sum_by}
use Rattle.kin_rules.specs.RankRule.{share_of}
use Rattle.kin_rules.proofs.rank_rules.total.Given as goal

abbrev pub invariant-loop-input : goal.invariant-loop-input
invariant-loop-input l = l.total ≡ min (10 ^ 15) (sum_by share_of (take l.input-index l.inputs))
