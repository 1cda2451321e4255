-- The language of schedules: which lines give which events.
use Rattle.std.specs.Prelude.{ℕ, ◌≡◌, ◌<◌, ◌≤◌, ◌+◌, ◌⊎◌, ◌==◌, not, Bool, true, List, [], ◌∷◌, map, filter, take, length, slice_index_or, Some, None, codes}
use Rattle.std.specs.List.{All, join_with_byte}
use Rattle.std.specs.Fmt.{decimal}
use Rattle.kin_line.specs.Lines.{lines}
use Rattle.kin_script.specs.declared.events.Event.{Event}
use Rattle.kin_script.specs.declared.events.Event.TheVariants as event
use Rattle.kin_script.specs.declared.events.Line.{Line}

abbrev pub Text : Type 0
Text = List ℕ

-- an event's word and its numbers
abbrev pub word_of : Event → Text
word_of (event.Stamp i n) = codes "stamp"
word_of (event.Deliver p i c to) = codes "deliver"
word_of (event.Report p) = codes "report"
word_of (event.Raise i) = codes "raise"
word_of (event.Cut n) = codes "cut"
word_of (event.Commit p) = codes "commit"
word_of event.Begin = codes "begin"
word_of (event.Turn u) = codes "turn"
word_of event.Mine = codes "mine"
word_of (event.Crash i) = codes "crash"
word_of (event.Restart i) = codes "restart"

abbrev pub numbers_of : Event → List ℕ
numbers_of (event.Stamp i n) = i.0 ∷ n ∷ []
numbers_of (event.Deliver p i c to) = p.0 ∷ i.0 ∷ c.0 ∷ to ∷ []
numbers_of (event.Report p) = p.0 ∷ []
numbers_of (event.Raise i) = i.0 ∷ []
numbers_of (event.Cut None) = []
numbers_of (event.Cut (Some n)) = n ∷ []
numbers_of (event.Commit p) = p.0 ∷ []
numbers_of event.Begin = []
numbers_of (event.Turn u) = u.0 ∷ []
numbers_of event.Mine = []
numbers_of (event.Crash i) = i.0 ∷ []
numbers_of (event.Restart i) = i.0 ∷ []

-- an event's line: its word and its numbers, parted by one space each
abbrev pub event_text : Event → Text
event_text e = join_with_byte 32 (word_of e ∷ map decimal (numbers_of e))

-- the numbers of an event are in range, over so many nodes and partitions
abbrev pub IsInRange : ℕ → ℕ → Event → Type 0
IsInRange nodes parts (event.Stamp i n) = (i.0 < nodes) × (0 < n) × (n ≤ 16)
IsInRange nodes parts (event.Deliver p i c to) = (p.0 < parts) × (i.0 < nodes) × (c.0 ≤ 65535) × (to ≤ 2097152)
IsInRange nodes parts (event.Report p) = p.0 < parts
IsInRange nodes parts (event.Raise i) = i.0 < nodes
IsInRange nodes parts (event.Cut None) = Unit {0}
IsInRange nodes parts (event.Cut (Some n)) = (0 < n) × (n ≤ 2097152)
IsInRange nodes parts (event.Commit p) = p.0 < parts
IsInRange nodes parts event.Begin = Unit {0}
IsInRange nodes parts (event.Turn u) = u.0 ≤ 4294967295
IsInRange nodes parts event.Mine = Unit {0}
IsInRange nodes parts (event.Crash i) = i.0 < nodes
IsInRange nodes parts (event.Restart i) = i.0 < nodes

-- an empty line, and one whose first byte is `#`, give no event
abbrev pub is_silent : Text → Bool
is_silent [] = true
is_silent (b ∷ bs) = b == 35

-- the line is silent, or the text of an event in range
abbrev pub IsInLanguage : ℕ → ℕ → Text → Type 0
IsInLanguage nodes parts line = (is_silent line ≡ true) ⊎ ((e : Event) × IsInRange nodes parts e × (event_text e ≡ line))

-- lines with their numbers, from this one on
abbrev pub numbered : ℕ → List Text → List (ℕ × Text)
numbered n [] = []
numbered n (line ∷ rest) = (n, line) ∷ numbered (n + 1) rest

-- the lines that aren't silent, with their numbers from 1 on
abbrev pub spoken : List Text → List (ℕ × Text)
spoken all = filter (λ line. not (is_silent line.1)) (numbered 1 all)

abbrev pub written : Line → ℕ × Text
written line = (line.number, event_text line.event)

-- the script is what these bytes give: its events are in range, and their texts with their numbers are the lines that aren't silent
pub record IsScript (nodes parts : ℕ) (bytes : List ℕ) (script : List Line) : Type 0 where
  pub texts : map written script ≡ spoken (lines bytes)
  pub range : All (λ line. IsInRange nodes parts line.event) script

-- the line of this number, counted from 1, is the first outside the language
pub record IsFirstOutside (nodes parts : ℕ) (bytes : List ℕ) (number : ℕ) : Type 0 where
  pub before : ℕ
  pub number_is : number ≡ before + 1
  pub inside : before < length (lines bytes)
  pub others : All (IsInLanguage nodes parts) (take before (lines bytes))
  pub outside : (d : Text) → IsInLanguage nodes parts (slice_index_or (lines bytes) before d) → ⊥

-- no two events in range have one text
abbrev pub OneTextLaw : Type 0
OneTextLaw = (nodes parts : ℕ) → nodes < 65536 → parts < 65536 → (a b : Event) → IsInRange nodes parts a → IsInRange nodes parts b
    → event_text a ≡ event_text b → a ≡ b
