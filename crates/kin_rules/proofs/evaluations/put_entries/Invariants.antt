use Rattle.std.proofs.Common.{◌≡◌, ◌++◌, take, map}
use Rattle.kin_rules.specs.declared.pull_rules.Facts.{Facts}
use Rattle.kin_rules.specs.ExposureEntries.{entry_among, uses_at}
use Rattle.kin_rules.proofs.evaluations.put_entries.Given as goal

-- the entries so far
abbrev pub invariant-loop-item : goal.invariant-loop-item
invariant-loop-item l = (df : Facts) → l.entries.items ≡ l.fn.entries.items ++ map (entry_among (uses_at df l.facts l.ends)) (take l.item-index l.uses)
