use Rattle.std.proofs.Common.{◌≡◌, take, map}
use Rattle.kin_rules.specs.Scratches.{users_seen}
use Rattle.kin_rules.proofs.scratches.tag_counts.Given as goal

abbrev pub invariant-loop-tag : goal.invariant-loop-tag
invariant-loop-tag g l = l.counts.items ≡ map (users_seen (g.V.View.seen l.view)) (take l.tag-index l.tags)
