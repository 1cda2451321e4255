use Rattle.std.proofs.Common.{◌≡◌, ◌^◌, get_or, map, min, sum, take}
use Rattle.kin_rules.proofs.rank_rules.total_shares.Given as goal

abbrev pub invariant-loop-end : goal.invariant-loop-end
invariant-loop-end l = l.total ≡ min (10 ^ 15) (sum (map (λ k. get_or l.shares k 0) (take l.end-index l.ends)))
