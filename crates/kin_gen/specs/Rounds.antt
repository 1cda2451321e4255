-- The events that a seed gives: rounds in which three nodes stamp what they have left, and four partitions take it.
use Rattle.std.specs.Prelude.{ℕ, zero, suc, ◌+◌, ◌-◌, ◌/◌, ◌%◌, ◌*◌, ◌<◌, ◌==◌, ◌||◌, min, nat_lt, if◌then◌else◌, Bool, List, [], ◌∷◌, ◌++◌, map, bit_xor, slice_index, slice_set, None}
use Rattle.kin_script.specs.declared.events.Event.{Event}
use Rattle.kin_script.specs.declared.events.Event.TheVariants as event
use Rattle.kin_gen.specs.Draws.{seeded, draw, after}
use Rattle.kin_gen.specs.declared.rounds.Standing.{Standing}

-- where the rounds stand at first: at the start of every feed, under incarnation 0
abbrev pub opening : ℕ → Standing
opening seed = record { draws = seeded (bit_xor seed 1); next = 0 ∷ 0 ∷ 0 ∷ []; incs = 0 ∷ 0 ∷ 0 ∷ [] }

-- the length of a feed: n records are dealt in turn
abbrev pub feed_length : ℕ → ℕ → ℕ
feed_length n i = (n + 2 - i) / 3

-- the node has records left
abbrev pub has_left : ℕ → Standing → ℕ → Bool
has_left n at i = nat_lt (slice_index at.next i) (feed_length n i)

-- how many records a draw has stamped
abbrev pub stamp_size : ℕ → ℕ
stamp_size w = 9 + w % 8

-- where the stamp of a draw ends
abbrev pub stamp_end : ℕ → Standing → ℕ → ℕ → ℕ
stamp_end n at i w = min (slice_index at.next i + stamp_size w) (feed_length n i)

-- the order in which a draw has the partitions get a stamp
abbrev pub in_order : ℕ → List ℕ
in_order w = if w / 8 % 2 == 0 then 0 ∷ 1 ∷ 2 ∷ 3 ∷ [] else 3 ∷ 2 ∷ 1 ∷ 0 ∷ []

-- the partition that gets it again, by one draw in eight
abbrev pub again : ℕ → List ℕ
again w = if w / 16 % 8 == 0 then (w / 128 % 4) ∷ [] else []

-- the piece of a stamp comes to a partition
abbrev pub delivered : ℕ → ℕ → ℕ → ℕ → Event
delivered i inc to p = event.Deliver (record { 0 = p }) (record { 0 = i }) (record { 0 = inc }) to

-- the pieces of a draw's stamp
abbrev pub pieces : ℕ → ℕ → ℕ → ℕ → List Event
pieces i inc to w = map (delivered i inc to) (in_order w ++ again w)

-- a draw's stamp and its pieces
abbrev pub stamping : ℕ → Standing → ℕ → ℕ → List Event
stamping n at i w =
    event.Stamp (record { 0 = i }) (stamp_size w) ∷ pieces i (slice_index at.incs i) (stamp_end n at i w) w

-- a node's turn in a round
unfoldable pub turn : ℕ → Standing → ℕ → List Event
turn n at i = if has_left n at i then stamping n at i (draw at.draws) else []

-- where the rounds stand after it
unfoldable pub after_turn : ℕ → Standing → ℕ → Standing
after_turn n at i =
    if has_left n at i
    then record at { draws = after at.draws; next = slice_set at.next i (stamp_end n at i (draw at.draws)) }
    else at

-- the turns of nodes, one after the other
abbrev pub turns : ℕ → Standing → List ℕ → List Event
turns n at [] = []
turns n at (i ∷ nodes) = turn n at i ++ turns n (after_turn n at i) nodes

-- where they stand after these turns
abbrev pub after_turns : ℕ → Standing → List ℕ → Standing
after_turns n at [] = at
after_turns n at (i ∷ nodes) = after_turns n (after_turn n at i) nodes

-- the three nodes
abbrev pub nodes : List ℕ
nodes = 0 ∷ 1 ∷ 2 ∷ []

-- the four partitions
abbrev pub parts : List ℕ
parts = 0 ∷ 1 ∷ 2 ∷ 3 ∷ []

-- every partition reports, and every node's agreed position is raised
abbrev pub agreement : List Event
agreement = map (λ p. event.Report (record { 0 = p })) parts ++ map (λ i. event.Raise (record { 0 = i })) nodes

-- a node goes down and comes back
abbrev pub restart : ℕ → List Event
restart i = event.Crash (record { 0 = i }) ∷ event.Restart (record { 0 = i }) ∷ []

-- the node that goes down in a round
abbrev pub restarted : ℕ → ℕ
restarted number = number / 256 % 3

-- events of every round whose number is a multiple of a period
abbrev pub every : ℕ → ℕ → List Event → List Event
every period number events = if number % period == 0 then events else []

-- a round, with its number from 1 on
unfoldable pub round : ℕ → ℕ → Standing → List Event
round n number at =
    turns n at nodes
    ++ every 8 number agreement
    ++ every 64 number (event.Cut None ∷ [])
    ++ every 256 number (restart (restarted number))

-- an incarnation grows where the node came back
abbrev pub with_restart : ℕ → Standing → Standing
with_restart i at = record at { incs = slice_set at.incs i (slice_index at.incs i + 1) }

-- where the rounds stand after it
unfoldable pub after_round : ℕ → ℕ → Standing → Standing
after_round n number at =
    if number % 256 == 0
    then with_restart (restarted number) (after_turns n at nodes)
    else after_turns n at nodes

-- before the round with this number no node came back more often than once in 256 rounds
abbrev pub AreYoung : ℕ → Standing → Type 0
AreYoung number at = (i : ℕ) → slice_index at.incs i * 256 < number

-- some node has records left
abbrev pub is_going : ℕ → Standing → Bool
is_going n at = has_left n at 0 || has_left n at 1 || has_left n at 2

-- at most so many rounds, numbered from here on: they go on while some node has records left
unfoldable pub rounds : ℕ → ℕ → ℕ → Standing → List Event
rounds n zero number at = []
rounds n (suc most) number at =
    if is_going n at
    then round n number at ++ rounds n most (number + 1) (after_round n number at)
    else []

-- the events of a job of n records, up to the drain; its rounds are never more than n
unfoldable pub gen_events : ℕ → ℕ → List Event
gen_events seed n = rounds n n 1 (opening seed) ++ agreement ++ (event.Cut None ∷ [])
