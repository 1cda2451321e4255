use Rattle.std.proofs.Common.{◌≡◌, drop}
use Rattle.kin_words.specs.Formed.{after_equals}
use Rattle.kin_words.proofs.parses.is_formed_name.Given as goal

abbrev pub invariant-loop-at : goal.invariant-loop-at
invariant-loop-at l = after_equals l.name ≡ after_equals (drop l.at l.name)
