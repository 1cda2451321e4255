use Rattle.std.proofs.Common.{◌≡◌, ◌++◌, ◌∷◌, [], take}
use Rattle.kin_report.specs.Text.{text_of}
use Rattle.kin_report.specs.Block.{user_lines}
use Rattle.kin_report.proofs.numbers.push_entries.Given as goal

abbrev pub invariant-loop-entry : goal.invariant-loop-entry
invariant-loop-entry l = l.text.items ≡ l.fn.text.items ++ text_of (user_lines (l.name ∷ []) (take l.entry-index l.entries))
