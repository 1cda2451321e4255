use Rattle.std.proofs.Common.{◌≡◌, ℕ, nat_lt, filter, map, get_or}
use Rattle.std.specs.List.{range_with_len}
use Rattle.kin_rules.specs.declared.numbers.KCount.{KCount}
use Rattle.kin_rules.proofs.exposure_lists.list_of.Given as goal

abbrev pub invariant-loop-k : goal.invariant-loop-k
invariant-loop-k l = l.list.items ≡ filter (λ (c : KCount). nat_lt 0 c.users) (map (λ (k : ℕ). let c : KCount = record { k = k; users = get_or l.counts k 0 } in c) (range_with_len 0 l.k))
