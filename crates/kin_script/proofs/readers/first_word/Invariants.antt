use Rattle.std.proofs.Common.{take}
use Rattle.kin_script.proofs.Words.{HasNoSpace}
use Rattle.kin_script.proofs.readers.first_word.Given as goal

abbrev pub invariant-loop-at : goal.invariant-loop-at
invariant-loop-at l = HasNoSpace (take l.at l.text)
