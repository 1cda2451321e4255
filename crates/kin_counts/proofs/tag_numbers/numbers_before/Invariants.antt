use Rattle.std.proofs.Common.{◌≡◌, map, take}
use Rattle.kin_rules.specs.Results.{tag_users_in}
use Rattle.kin_counts.proofs.tag_numbers.numbers_before.Given as goal

abbrev pub invariant-loop-tag : goal.invariant-loop-tag
invariant-loop-tag l = l.numbers.items ≡ map (tag_users_in l.counted) (take l.tag-index l.tags)
