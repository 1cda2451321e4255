-- Laws of lines, bases and agreed positions. They hold after every history of events in range, over one partition or more.
use Rattle.std.specs.Prelude.{ℕ, ◌≡◌, ◌≢◌, ◌<◌, ◌≤◌, ◌+◌, nat_le, true, false, List, ◌∷◌, length, slice_index, filter}
use Rattle.kin_ids.specs.declared.ids.IngestId.{IngestId}
use Rattle.kin_ids.specs.declared.stamps.Stamp.{Stamp}
use Rattle.kin_ids.specs.Lines.{IsLine, IsEnd, has, upto, seen_in}
use Rattle.kin_ids.specs.Fair.{IsSized}
use Rattle.kin_script.specs.declared.events.Event.{Event}
use Rattle.kin_script.specs.declared.outcomes.Outcome.{Outcome}
use Rattle.kin_script.specs.declared.events.Event.TheVariants as event
use Rattle.kin_script.specs.declared.outcomes.Outcome.TheVariants as outcome
use Rattle.kin_history.specs.Setting.{Setting, feed_len, IsHistory, after}
use Rattle.kin_history.specs.Lines.{inc, line, next, sent, reported, bases, base, ack, least_ack, seen, agreed}
use Rattle.kin_history.specs.Outcomes.{outcome_of}

-- A stamp of a node's line was made by the node. It begins where its incarnation began or later, and ends where the next incarnation
-- began or before, if there is one.
pub record IsPlaced (sent : List Stamp) (bases : List ℕ) (i : ℕ) (s : Stamp) : Type 0 where
  pub made : has sent s ≡ true
  pub ingest : s.ingest.0 ≡ i
  pub began : s.inc.0 < length bases
  pub begins : slice_index bases s.inc.0 ≤ s.from
  pub ends : s.inc.0 + 1 < length bases → s.to ≤ slice_index bases (s.inc.0 + 1)

-- A line's stamps follow each other from 0 within the node's feed, each of 1 to 16 records and in its place.
pub record IsWholeLine (set : Setting) (h : List Event) (i : ℕ) : Type 0 where
  pub run : IsLine 0 (line set h i)
  pub within : next set h i ≤ feed_len set i
  pub sizes : (s : Stamp) → has (line set h i) s ≡ true → IsSized s
  pub places : (s : Stamp) → has (line set h i) s ≡ true → IsPlaced (sent set h) (bases set h i) i s

abbrev pub WholeLineLaw : Type 0
WholeLineLaw = (set : Setting) (h : List Event) (i : ℕ) → 0 < set.parts → IsHistory set h → IsWholeLine set h i

-- Each incarnation has a base. The first is 0, none is below an earlier one, and none is above the agreed position.
pub record IsBased (set : Setting) (h : List Event) (i : ℕ) : Type 0 where
  pub count : length (bases set h i) ≡ inc set h i + 1
  pub first : base set h i 0 ≡ 0
  pub ordered : (c d : ℕ) → c ≤ d → d ≤ inc set h i → base set h i c ≤ base set h i d
  pub agreed : (c : ℕ) → c ≤ inc set h i → base set h i c ≤ agreed set h i

abbrev pub BaseLaw : Type 0
BaseLaw = (set : Setting) (h : List Event) (i : ℕ) → 0 < set.parts → IsHistory set h → IsBased set h i

-- The agreed position is 0 or the end of a transaction of the line. It lies between the base of the present incarnation and the
-- next position, and past that base the line has the present incarnation only.
pub record IsAgreed (set : Setting) (h : List Event) (i : ℕ) : Type 0 where
  pub ends : IsEnd 0 (line set h i) (agreed set h i)
  pub from : base set h i (inc set h i) ≤ agreed set h i
  pub to : agreed set h i ≤ next set h i
  pub last : (s : Stamp) → has (line set h i) s ≡ true → base set h i (inc set h i) < s.to → s.inc.0 ≡ inc set h i

abbrev pub AgreedLaw : Type 0
AgreedLaw = (set : Setting) (h : List Event) (i : ℕ) → 0 < set.parts → IsHistory set h → IsAgreed set h i

-- No partition's acknowledged position is below the agreed one, and so the least isn't.
pub record IsAcknowledged (set : Setting) (h : List Event) (i : ℕ) : Type 0 where
  pub each : (p : ℕ) → p < set.parts → agreed set h i ≤ ack set h p i
  pub least : agreed set h i ≤ least_ack set h i

abbrev pub AckLaw : Type 0
AckLaw = (set : Setting) (h : List Event) (i : ℕ) → 0 < set.parts → IsHistory set h → IsAcknowledged set h i

-- Every transaction of a line up to the agreed position had come to every partition before that partition's last report.
abbrev pub WholeLaw : Type 0
WholeLaw = (set : Setting) (h : List Event) (i p : ℕ) (s : Stamp) → 0 < set.parts → IsHistory set h → p < set.parts →
    has (line set h i) s ≡ true → s.to ≤ agreed set h i → has (reported set h p) s ≡ true

-- A position past the base of an incarnation is agreed only where every partition keeps that incarnation or a later one, and has
-- reported it.
abbrev pub KeptLaw : Type 0
KeptLaw = (set : Setting) (h : List Event) (i p c : ℕ) → 0 < set.parts → IsHistory set h → p < set.parts →
    c ≤ inc set h i → base set h i c < agreed set h i → (c ≤ seen set h p i) × (c ≤ seen_in (reported set h p) i)

-- Whatever comes later, the agreed position doesn't fall, and what it covers stays in the line as it is.
pub record IsLasting (set : Setting) (was now : List Event) (i : ℕ) : Type 0 where
  pub rises : agreed set was i ≤ agreed set now i
  pub stays : upto (agreed set was i) (line set now i) ≡ upto (agreed set was i) (line set was i)

abbrev pub LastingLaw : Type 0
LastingLaw = (set : Setting) (h es : List Event) (i : ℕ) → 0 < set.parts → IsHistory set (after h es) → IsLasting set h (after h es) i

-- an event that isn't refused
abbrev pub IsAccepted : Outcome → Type 0
IsAccepted (outcome.Refused why) = ⊥
IsAccepted _ = Unit {0}

-- An accepted restart keeps exactly the transactions of the line up to the agreed position. All that is lost ends past it, the next
-- incarnation begins there, and the lines of other nodes stay.
pub record IsCutBack (set : Setting) (h : List Event) (j : IngestId) : Type 0 where
  pub front : line set (event.Restart j ∷ h) j.0 ≡ upto (agreed set h j.0) (line set h j.0)
  pub exactly : line set (event.Restart j ∷ h) j.0 ≡ filter (λ (s : Stamp). nat_le s.to (agreed set h j.0)) (line set h j.0)
  pub lost : (s : Stamp) → has (line set h j.0) s ≡ true → has (line set (event.Restart j ∷ h) j.0) s ≡ false → agreed set h j.0 < s.to
  pub later : inc set (event.Restart j ∷ h) j.0 ≡ inc set h j.0 + 1
  pub begins : base set (event.Restart j ∷ h) j.0 (inc set h j.0 + 1) ≡ agreed set h j.0
  pub others : (i : ℕ) → i ≢ j.0 → line set (event.Restart j ∷ h) i ≡ line set h i

abbrev pub CutBackLaw : Type 0
CutBackLaw = (set : Setting) (h : List Event) (j : IngestId) → 0 < set.parts → IsHistory set h →
    IsAccepted (outcome_of set h (event.Restart j)) → IsCutBack set h j

-- A line loses transactions at a restart alone, and only what ends past the agreed position.
abbrev pub LossLaw : Type 0
LossLaw = (set : Setting) (h : List Event) (e : Event) (i : ℕ) (s : Stamp) → 0 < set.parts → IsHistory set (e ∷ h) →
    has (line set h i) s ≡ true → has (line set (e ∷ h) i) s ≡ false → agreed set h i < s.to

-- Later events may add incarnations with their bases, and change none that there is.
pub record KeepsBases (set : Setting) (was now : List Event) (i : ℕ) : Type 0 where
  pub more : inc set was i ≤ inc set now i
  pub kept : (c : ℕ) → c ≤ inc set was i → base set now i c ≡ base set was i c

abbrev pub BasesStayLaw : Type 0
BasesStayLaw = (set : Setting) (h es : List Event) (i : ℕ) → 0 < set.parts → IsHistory set (after h es) → KeepsBases set h (after h es) i
