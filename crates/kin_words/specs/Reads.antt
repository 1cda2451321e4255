-- How the reading of words and values ends.
use Rattle.std.specs.Prelude.{◌≡◌, ◌≢◌, true, List, [], Option, Some, None, Result, Ok, Err, option_map, if◌then◌else◌, codes}
use Rattle.std.specs.List.{list_all}
use Rattle.std.specs.Borrow.{Bor}
use Rattle.clap.specs.Words.{App, matches_of, fault_of, found_of, rows_of, first_value, one_text}
use Rattle.clap.specs.declared.parser.matches.ArgMatches.{ArgMatches}
use Rattle.kin_words.specs.Items.{Text, Item, Names, IsLine, has, value_at, is_taken}
use Rattle.kin_words.specs.Formed.{is_formed}
use Rattle.kin_words.specs.declared.faults.WordsFault.{WordsFault}
use Rattle.kin_words.specs.declared.faults.WordsFault.TheVariants as fault

-- a value that means something is read as that, and Usage comes where it means nothing
abbrev pub Reads : {X : Type 0} → Option X → Result X WordsFault → Type 0
Reads meant (Ok x) = meant ≡ Some x
Reads meant (Err fault.Usage) = meant ≡ None
Reads meant (Err fault.Memory) = Unit {0}

abbrev pub text_of : Option (Bor Text) → Option Text
text_of value = option_map (λ s. s.now) value

-- what clap makes of words, each of which the product takes
abbrev pub Parses : App → List Text → Result ArgMatches WordsFault → Type 0
Parses app words (Ok m) = (list_all is_formed words ≡ true) × (fault_of app words ≡ []) × (rows_of (found_of m) ≡ matches_of app words)
Parses app words (Err fault.Usage) = list_all is_formed words ≡ true → fault_of app words ≢ []
Parses app words (Err fault.Memory) = Unit {0}

-- the words are items of the command, whose values and flags these matches tell
pub record HasItems (c : Names) (words : List Text) (m : ArgMatches) : Type 0 where
  pub items : List Item
  pub line : IsLine c words items
  pub values : (name : Text) → has name c.options ≡ true → first_value (found_of m) name ≡ value_at name items
  pub flags : (name : Text) → has name c.flags ≡ true → one_text (found_of m) name ≡ Some (if is_taken name items then codes "true" else codes "false")

-- the words are such items, or Usage comes where they aren't
abbrev pub Matches : Names → List Text → Result ArgMatches WordsFault → Type 0
Matches c words (Ok m) = HasItems c words m
Matches c words (Err fault.Usage) = (items : List Item) → IsLine c words items → ⊥
Matches c words (Err fault.Memory) = Unit {0}
