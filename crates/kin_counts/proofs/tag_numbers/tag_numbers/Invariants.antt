use Rattle.std.proofs.Common.{◌≡◌, map, take}
use Rattle.kin_changes.specs.Told.{tag_more}
use Rattle.kin_rules.specs.Results.{tag_users_in}
use Rattle.kin_counts.specs.Changes.{raised}
use Rattle.kin_counts.proofs.tag_numbers.tag_numbers.Given as goal

abbrev pub invariant-loop-delta : goal.invariant-loop-delta
invariant-loop-delta l = l.numbers.items ≡ map (λ t. raised (tag_more (take l.delta-index l.deltas) t) (tag_users_in l.counted t)) l.tags
