use Rattle.std.proofs.Common.{◌≡◌, length}
use Rattle.kin_script.proofs.Words.{IsReading, texts_of}
use Rattle.kin_script.proofs.readers.numbers_of.Given as goal

abbrev pub invariant-loop-count : goal.invariant-loop-count
invariant-loop-count l = IsReading l.fn.text l.numbers.items (texts_of l.rest) × (length l.numbers.items ≡ l.count)
