use Rattle.std.proofs.Common.{◌≡◌, ◌≤◌, take}
use Rattle.std.specs.List.{count_by}
use Rattle.kin_rules.specs.declared.pull_rules.Facts.{Facts}
use Rattle.kin_rules.specs.ExposureEntries.{uses_at}
use Rattle.kin_rules.specs.ExposureRule.{is_earlier}
use Rattle.kin_rules.proofs.evaluations.earlier_at.Given as goal

-- those so far
abbrev pub invariant-loop-end : goal.invariant-loop-end
invariant-loop-end l = record {
  few : l.k ≤ l.end-index;
  counted : (df : Facts) → l.k ≡ count_by (is_earlier l.item) (uses_at df l.facts (take l.end-index l.ends));
}
