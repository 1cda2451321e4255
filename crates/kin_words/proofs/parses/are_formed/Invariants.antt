use Rattle.std.proofs.Common.{◌≡◌, take, true, string_bytes}
use Rattle.std.specs.List.{list_all}
use Rattle.kin_words.specs.Formed.{is_formed}
use Rattle.kin_words.proofs.parses.are_formed.Given as goal

abbrev pub invariant-loop-word : goal.invariant-loop-word
invariant-loop-word l = list_all (λ w. is_formed (string_bytes w)) (take l.word-index l.words) ≡ true
