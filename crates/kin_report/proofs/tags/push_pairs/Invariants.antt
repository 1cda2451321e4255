use Rattle.std.proofs.Common.{◌≡◌, ◌++◌, map, take}
use Rattle.kin_report.specs.Block.{pair_word}
use Rattle.kin_report.specs.Written.{spaced_on}
use Rattle.kin_report.proofs.tags.push_pairs.Given as goal

abbrev pub invariant-loop-pair : goal.invariant-loop-pair
invariant-loop-pair l = l.text.items ≡ l.fn.text.items ++ spaced_on (map pair_word (take l.pair-index l.pairs))
