use Rattle.std.proofs.Common.{◌≡◌, ◌++◌, take}
use Rattle.kin_report.specs.Text.{text_of}
use Rattle.kin_report.specs.Block.{tag_lines}
use Rattle.kin_report.proofs.tags.push_numbers.Given as goal

abbrev pub invariant-loop-entry : goal.invariant-loop-entry
invariant-loop-entry l = l.text.items ≡ l.fn.text.items ++ text_of (tag_lines (take l.entry-index l.tags))
