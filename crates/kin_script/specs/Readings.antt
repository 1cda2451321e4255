-- How the line of an event is read: its word, and its numbers.
use Rattle.std.specs.Prelude.{ℕ, ◌==◌, ◌&&◌, ◌^◌, nat_lt, List, [], ◌∷◌, Option, Some, None, option_map, option_and_then, if◌then◌else◌, codes}
use Rattle.std.specs.List.{slice_split}
use Rattle.std.specs.Str.{bytes_eq}
use Rattle.kin_ids.specs.declared.ids.IngestId.{IngestId}
use Rattle.kin_ids.specs.declared.ids.PartId.{PartId}
use Rattle.kin_ids.specs.declared.ids.User.{User}
use Rattle.kin_ids.specs.Texts.{number_of}
use Rattle.kin_script.specs.declared.events.Event.{Event}
use Rattle.kin_script.specs.declared.events.Event.TheVariants as event
use Rattle.kin_script.specs.Schedules.{Text}

-- what stands between spaces
abbrev pub spaced : Text → List Text
spaced text = slice_split (λ b. b == 32) text

-- every text as a number
abbrev pub read_all : List Text → Option (List ℕ)
read_all [] = Some []
read_all (t ∷ ts) = option_and_then (λ n. option_map (λ ns. n ∷ ns) (read_all ts)) (number_of (2 ^ 64) t)

abbrev pub node_in : ℕ → ℕ → Option IngestId
node_in nodes n = if nat_lt n nodes then Some (record { 0 = n }) else None

abbrev pub part_in : ℕ → ℕ → Option PartId
part_in parts n = if nat_lt n parts then Some (record { 0 = n }) else None

abbrev pub user_in : ℕ → Option User
user_in n = if nat_lt n 4294967296 then Some (record { 0 = n }) else None

abbrev pub cut_in : ℕ → Option Event
cut_in n = if nat_lt 0 n && nat_lt n 2097153 then Some (event.Cut (Some n)) else None

-- the event of a word without numbers, with one, with two and with four
abbrev pub bare : Text → Option Event
bare word =
    if bytes_eq word (codes "cut") then Some (event.Cut None)
    else (if bytes_eq word (codes "begin") then Some event.Begin
    else (if bytes_eq word (codes "mine") then Some event.Mine else None))

abbrev pub single : ℕ → ℕ → Text → ℕ → Option Event
single nodes parts word n =
    if bytes_eq word (codes "report") then option_map (λ p. event.Report p) (part_in parts n)
    else (if bytes_eq word (codes "raise") then option_map (λ i. event.Raise i) (node_in nodes n)
    else (if bytes_eq word (codes "commit") then option_map (λ p. event.Commit p) (part_in parts n)
    else (if bytes_eq word (codes "turn") then option_map (λ u. event.Turn u) (user_in n)
    else (if bytes_eq word (codes "cut") then cut_in n
    else (if bytes_eq word (codes "crash") then option_map (λ i. event.Crash i) (node_in nodes n)
    else (if bytes_eq word (codes "restart") then option_map (λ i. event.Restart i) (node_in nodes n) else None))))))

abbrev pub stamped : ℕ → Text → ℕ → ℕ → Option Event
stamped nodes word i n =
    if bytes_eq word (codes "stamp") && nat_lt i nodes && nat_lt 0 n && nat_lt n 17 then Some (event.Stamp (record { 0 = i }) n) else None

abbrev pub delivered : ℕ → ℕ → Text → ℕ → ℕ → ℕ → ℕ → Option Event
delivered nodes parts word p i c to =
    if bytes_eq word (codes "deliver") && nat_lt p parts && nat_lt i nodes && nat_lt c 65536 && nat_lt to 2097153
    then Some (event.Deliver (record { 0 = p }) (record { 0 = i }) (record { 0 = c }) to) else None

-- the event of a word and numbers
abbrev pub event_in : ℕ → ℕ → Text → List ℕ → Option Event
event_in nodes parts word [] = bare word
event_in nodes parts word (n ∷ []) = single nodes parts word n
event_in nodes parts word (i ∷ n ∷ []) = stamped nodes word i n
event_in nodes parts word (p ∷ i ∷ c ∷ to ∷ []) = delivered nodes parts word p i c to
event_in nodes parts word _ = None

abbrev pub event_of_words : ℕ → ℕ → List Text → Option Event
event_of_words nodes parts [] = None
event_of_words nodes parts (word ∷ rest) = option_and_then (event_in nodes parts word) (read_all rest)

-- the event of a line
abbrev pub event_read : ℕ → ℕ → Text → Option Event
event_read nodes parts line = event_of_words nodes parts (spaced line)
