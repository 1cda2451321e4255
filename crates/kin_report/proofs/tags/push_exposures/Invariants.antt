use Rattle.std.proofs.Common.{◌≡◌, ◌++◌, take}
use Rattle.kin_rules.specs.Results.{expo_in}
use Rattle.kin_report.specs.Text.{text_of}
use Rattle.kin_report.specs.Block.{expo_lines}
use Rattle.kin_report.proofs.tags.push_exposures.Given as goal

abbrev pub invariant-loop-entry : goal.invariant-loop-entry
invariant-loop-entry l = l.text.items ≡ l.fn.text.items ++ text_of (expo_lines (expo_in l.values) (take l.entry-index l.tags))
