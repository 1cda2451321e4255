use Rattle.std.proofs.Common.{◌≡◌, [], map, take, get_or}
use Rattle.kin_rules.specs.Results.{tag_place}
use Rattle.kin_rules.proofs.widenings.lists_of.Given as goal

abbrev pub invariant-loop-tag : goal.invariant-loop-tag
invariant-loop-tag l = l.lists.items ≡ map (λ t. get_or l.expos (tag_place l.old t) []) (take l.tag-index l.tags)
