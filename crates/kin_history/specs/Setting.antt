-- What a history runs over.
use Rattle.std.specs.Prelude.{ℕ, ◌<◌, ◌≤◌, List, [], ◌∷◌, Some, None, length}
use Rattle.kin_ids.specs.declared.ids.User.{User}
use Rattle.kin_ids.specs.declared.ops.Record.{Record}
use Rattle.kin_ids.specs.Order.{feed_at}
use Rattle.kin_script.specs.declared.events.Event.{Event}
use Rattle.kin_script.specs.declared.events.Event.TheVariants as event

-- The feeds by their records, the number of partitions, and the landmarks.
pub record Setting : Type 0 where
  pub feeds : List (List Record)
  pub parts : ℕ
  pub landmarks : List User

abbrev pub nodes : Setting → ℕ
nodes set = length set.feeds

-- how many records the feed of a node has
abbrev pub feed_len : Setting → ℕ → ℕ
feed_len set i = length (feed_at set.feeds i)

-- the ids and numbers of an event are in range
abbrev pub IsEvent : Setting → Event → Type 0
IsEvent set (event.Stamp j n) = (j.0 < nodes set) × (0 < n) × (n ≤ 16)
IsEvent set (event.Deliver p j c to) = (p.0 < set.parts) × (j.0 < nodes set)
IsEvent set (event.Report p) = p.0 < set.parts
IsEvent set (event.Raise j) = j.0 < nodes set
IsEvent set (event.Cut None) = Unit {0}
IsEvent set (event.Cut (Some n)) = (0 < n) × (n ≤ 2097152)
IsEvent set (event.Commit p) = p.0 < set.parts
IsEvent set event.Begin = Unit {0}
IsEvent set (event.Turn u) = Unit {0}
IsEvent set event.Mine = Unit {0}
IsEvent set (event.Crash j) = j.0 < nodes set
IsEvent set (event.Restart j) = j.0 < nodes set

-- A history is a list of events, the newest first.
abbrev pub IsHistory : Setting → List Event → Type 0
IsHistory set [] = Unit {0}
IsHistory set (e ∷ h) = IsEvent set e × IsHistory set h

-- the history after a script, whose events stand in order
abbrev pub after : List Event → List Event → List Event
after h [] = h
after h (e ∷ es) = after (e ∷ h) es
