use Rattle.std.proofs.Common.{◌≡◌, take, true}
use Rattle.clap.specs.Walk.{texts}
use Rattle.kin_words.specs.Values.{are_rules}
use Rattle.kin_words.proofs.values.are_rules.Given as goal

abbrev pub invariant-loop-part : goal.invariant-loop-part
invariant-loop-part l = are_rules (texts (take l.part-index l.parts)) ≡ true
