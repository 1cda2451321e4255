use Rattle.std.proofs.Common.{◌≡◌, ◌++◌, map, take}
use Rattle.kin_report.specs.Block.{end_word}
use Rattle.kin_report.specs.Written.{spaced_on}
use Rattle.kin_report.proofs.blocks.push_ends.Given as goal

abbrev pub invariant-loop-end : goal.invariant-loop-end
invariant-loop-end l = l.text.items ≡ l.fn.text.items ++ spaced_on (map end_word (take l.end-index l.ends))
