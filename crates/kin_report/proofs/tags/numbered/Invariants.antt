use Rattle.std.proofs.Common.{◌≡◌, take}
use Rattle.kin_rules.specs.Results.{tag_users_in}
use Rattle.kin_rules.specs.Top.{numbered_tags}
use Rattle.kin_report.proofs.tags.numbered.Given as goal

abbrev pub invariant-loop-tag : goal.invariant-loop-tag
invariant-loop-tag l = l.list.items ≡ numbered_tags (tag_users_in l.values) (take l.tag-index l.tags)
