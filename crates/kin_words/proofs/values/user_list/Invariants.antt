use Rattle.std.proofs.Common.{◌≡◌, ◌++◌, drop}
use Rattle.std.specs.Prelude.{option_map}
use Rattle.clap.specs.Walk.{texts}
use Rattle.kin_words.specs.Values.{users_of}
use Rattle.kin_words.proofs.values.user_list.Given as goal

abbrev pub invariant-loop-part : goal.invariant-loop-part
invariant-loop-part l = users_of (texts l.parts) ≡ option_map (λ us. l.users ++ us) (users_of (texts (drop l.part-index l.parts)))
