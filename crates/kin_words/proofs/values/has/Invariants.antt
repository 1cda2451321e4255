use Rattle.std.proofs.Common.{◌≡◌, take, false}
use Rattle.clap.specs.Walk.{texts}
use Rattle.kin_words.specs.Items.{has}
use Rattle.kin_words.proofs.values.has.Given as goal

abbrev pub invariant-loop-part : goal.invariant-loop-part
invariant-loop-part l = has l.name (texts (take l.part-index l.parts)) ≡ false
