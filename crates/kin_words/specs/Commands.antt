-- The commands and their words.
use Rattle.std.specs.Prelude.{Bool, ◌≡◌, ◌^◌, ◌-◌, List, [], ◌∷◌, Option, Some, None, option_and_then, slice_get, if◌then◌else◌, codes}
use Rattle.std.specs.Str.{bytes_eq}
use Rattle.kin_ids.specs.declared.options.ReplayWords.{ReplayWords}
use Rattle.kin_ids.specs.declared.options.DemoWords.{DemoWords}
use Rattle.kin_words.specs.Items.{Text, Item, Names, IsLine, value_at, is_taken}
use Rattle.kin_words.specs.Values.{or_default, number_from, names_of, rules_of, landmarks_of, chosen, rule_names}
use Rattle.kin_words.specs.declared.commands.Command.{Command}
use Rattle.kin_words.specs.declared.commands.Command.TheVariants as command

abbrev pub command_of : Text → Option Command
command_of word = if bytes_eq word (codes "replay") then Some command.Replay else (if bytes_eq word (codes "demo") then Some command.Demo else None)

-- the command that the first word names
abbrev pub picked : List Text → Option Command
picked words = option_and_then command_of (slice_get words 0)

abbrev pub replay_names : Names
replay_names = record {
  options = codes "script" ∷ codes "feeds" ∷ codes "parts" ∷ codes "rules" ∷ codes "landmarks" ∷ codes "top" ∷ [];
  flags = codes "trace" ∷ [];
}

-- what `replay` makes of the values of its options, and of its flag
pub record IsReplay (value : Text → Option Text) (is_traced : Bool) (w : ReplayWords) : Type 0 where
  pub script : value (codes "script") ≡ Some w.script
  pub feeds : option_and_then names_of (value (codes "feeds")) ≡ Some w.feeds
  pub parts : or_default 1 (number_from 1 64) (value (codes "parts")) ≡ Some w.parts
  pub rules : or_default (chosen rule_names) rules_of (value (codes "rules")) ≡ Some w.options.rules
  pub landmarks : or_default [] landmarks_of (value (codes "landmarks")) ≡ Some w.options.landmarks
  pub top : or_default 10 (number_from 0 1000) (value (codes "top")) ≡ Some w.options.top
  pub trace : w.trace ≡ is_traced

-- the words of `replay` ask for this
pub record AsksReplay (words : List Text) (w : ReplayWords) : Type 0 where
  pub items : List Item
  pub line : IsLine replay_names words items
  pub chooses : IsReplay (λ name. value_at name items) (is_taken (codes "trace") items) w

abbrev pub demo_names : Names
demo_names = record { options = codes "seed" ∷ codes "records" ∷ []; flags = [] }

-- what `demo` makes of the values of its options
pub record IsDemo (value : Text → Option Text) (w : DemoWords) : Type 0 where
  pub seed : option_and_then (number_from 0 (2 ^ 64 - 1)) (value (codes "seed")) ≡ Some w.seed
  pub records : option_and_then (number_from 1 500000) (value (codes "records")) ≡ Some w.records

-- the words of `demo` ask for this
pub record AsksDemo (words : List Text) (w : DemoWords) : Type 0 where
  pub items : List Item
  pub line : IsLine demo_names words items
  pub chooses : IsDemo (λ name. value_at name items) w
