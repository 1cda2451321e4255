use Rattle.std.proofs.Common.{◌≡◌, drop}
use Rattle.clap.specs.Walk.{texts}
use Rattle.kin_words.specs.Items.{are_distinct}
use Rattle.kin_words.proofs.values.are_distinct.Given as goal

abbrev pub invariant-loop-index : goal.invariant-loop-index
invariant-loop-index l = are_distinct (texts l.parts) ≡ are_distinct (texts (drop l.index l.parts))
