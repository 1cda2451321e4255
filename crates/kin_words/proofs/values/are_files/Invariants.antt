use Rattle.std.proofs.Common.{◌≡◌, take, true}
use Rattle.std.specs.List.{list_all}
use Rattle.clap.specs.Walk.{texts}
use Rattle.kin_words.specs.Values.{is_filled}
use Rattle.kin_words.proofs.values.are_files.Given as goal

abbrev pub invariant-loop-part : goal.invariant-loop-part
invariant-loop-part l = list_all is_filled (texts (take l.part-index l.parts)) ≡ true
