-- The texts of the three feeds that a seed gives: records drawn one after the other, and dealt to the feeds in turn.
use Rattle.std.specs.Prelude.{ℕ, zero, suc, ◌+◌, ◌-◌, ◌/◌, ◌%◌, ◌==◌, ◌&&◌, nat_lt, if◌then◌else◌, List, [], ◌∷◌, ◌++◌, codes}
use Rattle.std.specs.Fmt.{decimal}
use Rattle.kin_gen.specs.Draws.{State, seeded, draw, after, past}

-- bytes
abbrev pub Text : Type 0
Text = List ℕ

-- how many users a job of n records has
abbrev pub user_count : ℕ → ℕ
user_count n = n / 4 + 2

-- the user of a record, by its first draw
abbrev pub user : ℕ → ℕ → ℕ
user users a = a / 16 % users

-- the other user of an edge, by the second draw: any but the user itself
abbrev pub other : ℕ → ℕ → ℕ → ℕ
other users u b = if nat_lt (b % (users - 1)) u then b % (users - 1) else b % (users - 1) + 1

-- an item, by its draw: an even one mentions a user, an odd one uses a tag
abbrev pub item : ℕ → ℕ → Text
item users c = if c % 2 == 0 then codes "@" ++ decimal (c / 2 % users) else codes "#t" ++ decimal (c / 2 % 50)

-- so many items, each after a comma
unfoldable pub items : ℕ → ℕ → State → Text
items users zero state = []
items users (suc count) state = codes "," ++ item users (draw state) ++ items users count (after state)

-- an edge from the user to the other one
abbrev pub edge : Text → ℕ → ℕ → ℕ → Text
edge kind users u b = kind ++ decimal u ++ codes "," ++ decimal (other users u b)

-- how many items a tweet has, by the second draw
abbrev pub item_count : ℕ → ℕ
item_count b = 1 + b % 3

-- a tweet of a user, with so many items
abbrev pub tweet : ℕ → ℕ → ℕ → State → Text
tweet users u count state = codes "t," ++ decimal u ++ items users count state

-- a record by its first two draws and the state after them: of 16 draws nine give a follow, one an unfollow, five a
-- tweet, and one a record that is bad
unfoldable pub record_text : ℕ → ℕ → ℕ → State → Text
record_text users a b state =
    if nat_lt (a % 16) 9 then edge (codes "f,") users (user users a) b
    else (if a % 16 == 9 then edge (codes "x,") users (user users a) b
    else (if nat_lt (a % 16) 15 then tweet users (user users a) (item_count b) state
    else codes "?"))

-- the state after a record: a tweet takes a draw for each of its items
unfoldable pub record_end : ℕ → ℕ → State → State
record_end a b state = if nat_lt 9 (a % 16) && nat_lt (a % 16) 15 then past (item_count b) state else state

-- the line of a record, with its LF
unfoldable pub line : ℕ → State → Text
line users state = record_text users (draw state) (draw (after state)) (after (after state)) ++ codes "\n"

-- the state after it
unfoldable pub after_line : State → State
after_line state = record_end (draw state) (draw (after state)) (after (after state))

-- the lines of so many records
unfoldable pub lines_from : ℕ → ℕ → State → List Text
lines_from users zero state = []
lines_from users (suc count) state = line users state ∷ lines_from users count (after_line state)

-- what a feed gets of lines that are numbered from r on: those whose number modulo 3 is its own
unfoldable pub dealt : ℕ → ℕ → List Text → Text
dealt feed r [] = []
dealt feed r (text ∷ texts) = (if r % 3 == feed then text else []) ++ dealt feed (r + 1) texts

-- the text of a feed
unfoldable pub gen_feed : ℕ → ℕ → ℕ → Text
gen_feed seed n feed = dealt feed 0 (lines_from (user_count n) n (seeded seed))

-- the texts of the three feeds
abbrev pub gen_feeds : ℕ → ℕ → List Text
gen_feeds seed n = gen_feed seed n 0 ∷ gen_feed seed n 1 ∷ gen_feed seed n 2 ∷ []
