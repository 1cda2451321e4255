-- What an event answers after a history.
use Rattle.std.specs.Prelude.{ℕ, ◌+◌, ◌==◌, nat_lt, not, if◌then◌else◌, List, [], ◌∷◌, Option, Some, None}
use Rattle.kin_ids.specs.declared.stamps.Stamp.{Stamp}
use Rattle.kin_ids.specs.Lines.{has, find_stamp, next_stamp}
use Rattle.kin_script.specs.declared.events.Event.{Event}
use Rattle.kin_script.specs.declared.outcomes.Outcome.{Outcome}
use Rattle.kin_script.specs.declared.outcomes.Refusal.{Refusal}
use Rattle.kin_script.specs.declared.events.Event.TheVariants as event
use Rattle.kin_script.specs.declared.outcomes.Outcome.TheVariants as outcome
use Rattle.kin_script.specs.declared.outcomes.Refusal.TheVariants as refusal
use Rattle.kin_history.specs.Setting.{Setting, feed_len}
use Rattle.kin_history.specs.Lines.{up, inc, next, sent, delivered, agreed, least_ack, seen, top}
use Rattle.kin_history.specs.Vectors.{unreported_part, cuts, committed}
use Rattle.kin_history.specs.Mining.{held_back, mined, is_open}

-- the epoch with this number
abbrev pub cut_answer : ℕ → Option ℕ → Outcome
cut_answer k None = outcome.CutMade (record { 0 = k })
cut_answer k (Some p) = outcome.Refused (refusal.NotReported (record { 0 = p }))

abbrev pub begin_answer : ℕ → Option Refusal → Outcome
begin_answer k None = outcome.Begun (record { 0 = k })
begin_answer k (Some r) = outcome.Refused r

abbrev pub mine_answer : ℕ → Option Refusal → Outcome
mine_answer k None = outcome.Mined (record { 0 = k })
mine_answer k (Some r) = outcome.Refused r

module _ (set : Setting) where
  -- what a delivery answers, by the stamp that it names
  abbrev pub delivery : List Event → Event → ℕ → ℕ → Option Stamp → Outcome
  delivery h e p j None = outcome.Refused refusal.NotSent
  delivery h e p j (Some s) =
      if nat_lt s.inc.0 (seen set h p j) then outcome.Stale (record { 0 = seen set h p j })
      else (if has (delivered set h p) s then outcome.Repeat
      else (if nat_lt (top set (e ∷ h) p j) s.to then outcome.Early (top set (e ∷ h) p j) else outcome.Held (top set (e ∷ h) p j)))

  abbrev pub outcome_of : List Event → Event → Outcome
  outcome_of h (event.Stamp j n) =
      if not (up set h j.0) then outcome.Refused refusal.Down
      else (if next set h j.0 == feed_len set j.0 then outcome.Refused refusal.Exhausted
      else outcome.Stamped (next_stamp (feed_len set j.0) j.0 (inc set h j.0) (next set h j.0) n))
  outcome_of h (event.Deliver p j c to) = delivery h (event.Deliver p j c to) p.0 j.0 (find_stamp (sent set h) j.0 c.0 to)
  outcome_of h (event.Report p) = outcome.Reported
  outcome_of h (event.Raise j) =
      if nat_lt (agreed set h j.0) (least_ack set h j.0) then outcome.Raised (least_ack set h j.0) else outcome.Level (agreed set h j.0)
  outcome_of h (event.Cut n) = cut_answer (cuts set h + 1) (unreported_part set h)
  outcome_of h (event.Commit p) =
      if nat_lt (committed set h p.0) (cuts set h) then outcome.Committed (record { 0 = committed set h p.0 + 1 }) else outcome.Refused refusal.NothingCut
  outcome_of h event.Begin =
      if is_open set h then outcome.Refused (refusal.Busy (record { 0 = mined set h + 1 })) else begin_answer (mined set h + 1) (held_back set h (mined set h + 1))
  outcome_of h (event.Turn u) = if is_open set h then outcome.Turned else outcome.Refused refusal.NotBegun
  outcome_of h event.Mine =
      if is_open set h then outcome.Mined (record { 0 = mined set h + 1 }) else mine_answer (mined set h + 1) (held_back set h (mined set h + 1))
  outcome_of h (event.Crash j) = if not (up set h j.0) then outcome.Refused refusal.Down else outcome.Crashed
  outcome_of h (event.Restart j) =
      if up set h j.0 then outcome.Refused refusal.Up
      else (if nat_lt (inc set h j.0) 65535 then outcome.Restarted (record { 0 = inc set h j.0 + 1 }) (agreed set h j.0) else outcome.Refused refusal.IncarnationsSpent)

  -- what the events of a script answer in turn, after a history
  abbrev pub outcomes : List Event → List Event → List Outcome
  outcomes h [] = []
  outcomes h (e ∷ es) = outcome_of h e ∷ outcomes (e ∷ h) es
