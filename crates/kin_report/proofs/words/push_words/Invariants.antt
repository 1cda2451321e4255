use Rattle.std.proofs.Common.{◌≡◌, ◌++◌, map, take}
use Rattle.kin_report.specs.Written.{spaced_on, word_text}
use Rattle.kin_report.proofs.words.push_words.Given as goal

abbrev pub invariant-loop-word : goal.invariant-loop-word
invariant-loop-word l = l.text.items ≡ l.fn.text.items ++ spaced_on (map word_text (take l.word-index l.words))
