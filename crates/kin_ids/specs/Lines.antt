-- Words on lists of stamps.
use Rattle.std.specs.Prelude.{ℕ, zero, suc, ◌≡◌, ◌<◌, ◌⊎◌, ◌+◌, ◌==◌, ◌&&◌, nat_le, min, max, Bool, List, [], ◌∷◌, ◌++◌, Option, Some, None, if◌then◌else◌}
use Rattle.std.specs.List.{list_any}
use Rattle.kin_ids.specs.Types.{Stamp, Piece}

-- where stamps that follow each other from a position end
abbrev pub end_of : ℕ → List Stamp → ℕ
end_of at [] = at
end_of at (s ∷ ss) = end_of s.to ss

-- whether two stamps are one
abbrev pub same_stamp : Stamp → Stamp → Bool
same_stamp a b = (a.ingest.0 == b.ingest.0 && a.inc.0 == b.inc.0) && (a.from == b.from && a.to == b.to)

-- the stamps follow each other from a position on
abbrev pub IsLine : ℕ → List Stamp → Type 0
IsLine at [] = Unit {0}
IsLine at (s ∷ ss) = (s.from ≡ at) × (at < s.to) × IsLine s.to ss

-- a number is the position where a line begins, or the end of one of its stamps
abbrev pub IsEnd : ℕ → List Stamp → ℕ → Type 0
IsEnd at [] m = m ≡ at
IsEnd at (s ∷ ss) m = (m ≡ at) ⊎ IsEnd s.to ss m

-- whether a stamp is among these
abbrev pub has : List Stamp → Stamp → Bool
has ss s = list_any (λ t. same_stamp t s) ss

-- the stamps of pieces
abbrev pub stamps_of : List Piece → List Stamp
stamps_of [] = []
stamps_of (p ∷ ps) = p.stamp ∷ stamps_of ps

-- whether a stamp is among those of pieces
abbrev pub has_piece : List Piece → Stamp → Bool
has_piece ps s = list_any (λ (p : Piece). same_stamp p.stamp s) ps

-- the longest front of a list whose stamps all arrived
abbrev pub front_in : List Stamp → List Stamp → List Stamp
front_in arrived [] = []
front_in arrived (s ∷ ss) = if has arrived s then s ∷ front_in arrived ss else []

-- the stamp of a node and incarnation that ends at a position, among those that were made
abbrev pub find_stamp : List Stamp → ℕ → ℕ → ℕ → Option Stamp
find_stamp [] i c to = None
find_stamp (s ∷ ss) i c to = if (s.ingest.0 == i && s.inc.0 == c) && s.to == to then Some s else find_stamp ss i c to

-- the next stamp of n records by a node of this feed, under an incarnation, at this position
abbrev pub next_stamp : ℕ → ℕ → ℕ → ℕ → ℕ → Stamp
next_stamp len i c at n = record { ingest = record { 0 = i }; inc = record { 0 = c }; from = at; to = min (at + n) len }

-- a line with the next stamp of n records, or as it is where the feed has ended
abbrev pub with_next : ℕ → ℕ → ℕ → ℕ → List Stamp → List Stamp
with_next len i c n line = if end_of 0 line == len then line else line ++ next_stamp len i c (end_of 0 line) n ∷ []

-- what arrived, with one more stamp where there is one
abbrev pub with_found : Option Stamp → List Stamp → List Stamp
with_found None arrived = arrived
with_found (Some s) arrived = s ∷ arrived

-- the front of a line that ends at or before a position
abbrev pub upto : ℕ → List Stamp → List Stamp
upto at [] = []
upto at (s ∷ ss) = if nat_le s.to at then s ∷ upto at ss else []

-- what is left of a line past a position
abbrev pub past : ℕ → List Stamp → List Stamp
past at [] = []
past at (s ∷ ss) = if nat_le s.to at then past at ss else s ∷ ss

-- the incarnation at a position: that of the stamp of a line that ends there, 0 where none does
abbrev pub inc_at : List Stamp → ℕ → ℕ
inc_at [] at = 0
inc_at (s ∷ ss) at = if s.to == at then s.inc.0 else inc_at ss at

-- the least number from one on, below another, at which the test fails
abbrev pub first_without : ℕ → ℕ → (ℕ → Bool) → Option ℕ
first_without from zero test = None
first_without from (suc n) test = if test from then first_without (from + 1) n test else Some from

-- the greatest incarnation among a node's stamps, 0 where there is none
abbrev pub seen_in : List Stamp → ℕ → ℕ
seen_in [] i = 0
seen_in (s ∷ ss) i = if s.ingest.0 == i then max s.inc.0 (seen_in ss i) else seen_in ss i

-- whether a stamp is of this node and incarnation
abbrev pub is_of : ℕ → ℕ → Stamp → Bool
is_of i c s = s.ingest.0 == i && s.inc.0 == c

-- a node's stamps of one incarnation
abbrev pub made_by : ℕ → ℕ → List Stamp → List Stamp
made_by i c [] = []
made_by i c (s ∷ ss) = if is_of i c s then s ∷ made_by i c ss else made_by i c ss

-- up to where the line arrived
abbrev pub ack_of : List Stamp → List Stamp → ℕ
ack_of arrived line = end_of 0 (front_in arrived line)

-- the least of a first number and those of the first n numbers
abbrev pub least_from : ℕ → ℕ → (ℕ → ℕ) → ℕ
least_from first zero f = first
least_from first (suc n) f = min (least_from first n f) (f n)
