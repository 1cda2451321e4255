-- Rows by hand: what draws give.
use Rattle.std.specs.Prelude.{ℕ, ◌≡◌, List, [], ◌∷◌, ◌++◌, None, codes}
use Rattle.kin_script.specs.declared.events.Event.{Event}
use Rattle.kin_script.specs.declared.events.Event.TheVariants as event
use Rattle.kin_gen.specs.declared.rounds.Standing.{Standing}
use Rattle.kin_gen.specs.Draws.{State, after}
use Rattle.kin_gen.specs.Feeds.{item, items, record_text, record_end, dealt}
use Rattle.kin_gen.specs.Rounds.{stamping, agreement, round, after_round}

-- records of ten users by their first two draws: 115 is 7 * 16 + 3
pub record RecordRows : Type 0 where
  pub follow : (s : State) → record_text 10 115 4 s ≡ codes "f,7,4"
  pub follow_last : (s : State) → record_text 10 120 16 s ≡ codes "f,7,8"
  pub unfollow : (s : State) → record_text 10 281 9 s ≡ codes "x,7,0"
  pub tweet : (s : State) → record_text 10 122 4 s ≡ codes "t,7" ++ items 10 2 s
  pub bad : (s : State) → record_text 10 127 4 s ≡ codes "?"
  pub user : item 10 28 ≡ codes "@4"
  pub tag : item 10 109 ≡ codes "#t4"
  pub no_draws : (s : State) → record_end 115 4 s ≡ s
  pub two_draws : (s : State) → record_end 122 4 s ≡ after (after s)

-- seven lines, numbered from 0 on, are dealt to three feeds
abbrev pub lines_of_seven : List (List ℕ)
lines_of_seven = codes "a" ∷ codes "b" ∷ codes "c" ∷ codes "d" ∷ codes "e" ∷ codes "f" ∷ codes "g" ∷ []

-- what each feed gets of them
pub record DealtRows : Type 0 where
  pub first : dealt 0 0 lines_of_seven ≡ codes "adg"
  pub second : dealt 1 0 lines_of_seven ≡ codes "be"
  pub third : dealt 2 0 lines_of_seven ≡ codes "cf"

-- of 66 records node 1 has 22, and it has stamped 11 of them under incarnation 1
abbrev pub halfway : Standing
halfway = record { draws = []; next = 22 ∷ 11 ∷ 22 ∷ []; incs = 0 ∷ 1 ∷ 0 ∷ [] }

-- a piece of node 1 under this incarnation
abbrev pub piece : ℕ → ℕ → Event
piece p to = event.Deliver (record { 0 = p }) (record { 0 = 1 }) (record { 0 = 1 }) to

-- stamps by their draw: 265 is 2 * 128 + 0 * 16 + 1 * 8 + 1, and 23 is 1 * 16 + 0 * 8 + 7
pub record StampRows : Type 0 where
  pub backwards : stamping 66 halfway 1 265
      ≡ event.Stamp (record { 0 = 1 }) 10 ∷ piece 3 21 ∷ piece 2 21 ∷ piece 1 21 ∷ piece 0 21 ∷ piece 2 21 ∷ []
  pub to_the_end : stamping 66 halfway 1 23
      ≡ event.Stamp (record { 0 = 1 }) 16 ∷ piece 0 22 ∷ piece 1 22 ∷ piece 2 22 ∷ piece 3 22 ∷ []

-- all feeds are empty
abbrev pub empty : Standing
empty = record { draws = []; next = 0 ∷ 0 ∷ 0 ∷ []; incs = 0 ∷ 1 ∷ 0 ∷ [] }

-- rounds over empty feeds: the 7th, 8th, 64th and the 512th, at which node 2 comes back
pub record RoundRows : Type 0 where
  pub seventh : round 0 7 empty ≡ []
  pub eighth : round 0 8 empty ≡ agreement
  pub cut : round 0 64 empty ≡ agreement ++ event.Cut None ∷ []
  pub restart : round 0 512 empty
      ≡ agreement ++ event.Cut None ∷ event.Crash (record { 0 = 2 }) ∷ event.Restart (record { 0 = 2 }) ∷ []
  pub restarted : (after_round 0 512 empty).incs ≡ 0 ∷ 1 ∷ 1 ∷ []
