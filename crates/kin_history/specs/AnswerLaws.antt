-- What each event answers after every history: each answer exactly where its cause holds.
use Rattle.std.specs.Prelude.{ℕ, ◌≡◌, ◌≢◌, ◌<◌, ◌≤◌, ◌+◌, ◌↔◌, min, true, false, List, ◌∷◌, Option}
use Rattle.kin_ids.specs.declared.ids.IngestId.{IngestId}
use Rattle.kin_ids.specs.declared.ids.PartId.{PartId}
use Rattle.kin_ids.specs.declared.ids.Epoch.{Epoch}
use Rattle.kin_ids.specs.declared.ids.Inc.{Inc}
use Rattle.kin_ids.specs.declared.ids.User.{User}
use Rattle.kin_ids.specs.declared.stamps.Stamp.{Stamp}
use Rattle.kin_ids.specs.Lines.{has}
use Rattle.kin_script.specs.declared.events.Event.{Event}
use Rattle.kin_script.specs.declared.events.Event.TheVariants as event
use Rattle.kin_script.specs.declared.outcomes.Outcome.TheVariants as outcome
use Rattle.kin_script.specs.declared.outcomes.Refusal.TheVariants as refusal
use Rattle.kin_history.specs.Setting.{Setting, feed_len, IsHistory}
use Rattle.kin_history.specs.Lines.{up, inc, next, sent, delivered, agreed, seen, top, has_reported}
use Rattle.kin_history.specs.Vectors.{cuts, committed}
use Rattle.kin_history.specs.Mining.{mined, is_open}
use Rattle.kin_history.specs.Outcomes.{outcome_of}

-- a node that is down stamps nothing, and one whose feed is stamped to its end has nothing left
pub record StampAnswers (set : Setting) (h : List Event) (j : IngestId) (n : ℕ) : Type 0 where
  pub down : (outcome_of set h (event.Stamp j n) ≡ outcome.Refused refusal.Down) ↔ (up set h j.0 ≡ false)
  pub exhausted : (outcome_of set h (event.Stamp j n) ≡ outcome.Refused refusal.Exhausted)
      ↔ ((up set h j.0 ≡ true) × (next set h j.0 ≡ feed_len set j.0))
  pub stamped : (s : Stamp) → (outcome_of set h (event.Stamp j n) ≡ outcome.Stamped s)
      ↔ ((up set h j.0 ≡ true) × (next set h j.0 ≢ feed_len set j.0)
      × (s ≡ record { ingest = j; inc = record { 0 = inc set h j.0 }; from = next set h j.0; to = min (next set h j.0 + n) (feed_len set j.0) }))

abbrev pub StampLaw : Type 0
StampLaw = (set : Setting) (h : List Event) (j : IngestId) (n : ℕ) → StampAnswers set h j n

-- a stamp that a node made under an incarnation, and that ends at a position
pub record IsSent (set : Setting) (h : List Event) (i c at : ℕ) (s : Stamp) : Type 0 where
  pub made : has (sent set h) s ≡ true
  pub ingest : s.ingest.0 ≡ i
  pub inc : s.inc.0 ≡ c
  pub to : s.to ≡ at

-- there is at most one, and where there is none a delivery is refused
pub record DeliverRefused (set : Setting) (h : List Event) (p : PartId) (j : IngestId) (c : Inc) (to : ℕ) : Type 0 where
  pub one : (s t : Stamp) → IsSent set h j.0 c.0 to s → IsSent set h j.0 c.0 to t → s ≡ t
  pub not_sent : (outcome_of set h (event.Deliver p j c to) ≡ outcome.Refused refusal.NotSent) ↔ ((s : Stamp) → IsSent set h j.0 c.0 to s → ⊥)

-- Else it is stale where a later incarnation came to the partition, a repeat where the stamp did, and early where it ends past the top.
pub record DeliverAnswers (set : Setting) (h : List Event) (p : PartId) (j : IngestId) (c : Inc) (to : ℕ) (s : Stamp) : Type 0 where
  pub stale : (d : Inc) → (outcome_of set h (event.Deliver p j c to) ≡ outcome.Stale d) ↔ ((c.0 < seen set h p.0 j.0) × (d.0 ≡ seen set h p.0 j.0))
  pub repeat : (outcome_of set h (event.Deliver p j c to) ≡ outcome.Repeat) ↔ ((seen set h p.0 j.0 ≤ c.0) × (has (delivered set h p.0) s ≡ true))
  pub early : (at : ℕ) → (outcome_of set h (event.Deliver p j c to) ≡ outcome.Early at)
      ↔ ((seen set h p.0 j.0 ≤ c.0) × (has (delivered set h p.0) s ≡ false) × (at < to) × (at ≡ top set (event.Deliver p j c to ∷ h) p.0 j.0))
  pub held : (at : ℕ) → (outcome_of set h (event.Deliver p j c to) ≡ outcome.Held at)
      ↔ ((seen set h p.0 j.0 ≤ c.0) × (has (delivered set h p.0) s ≡ false) × (to ≤ at) × (at ≡ top set (event.Deliver p j c to ∷ h) p.0 j.0))

abbrev pub NotSentLaw : Type 0
NotSentLaw = (set : Setting) (h : List Event) (p : PartId) (j : IngestId) (c : Inc) (to : ℕ) → 0 < set.parts → IsHistory set h →
    DeliverRefused set h p j c to

abbrev pub DeliverLaw : Type 0
DeliverLaw = (set : Setting) (h : List Event) (p : PartId) (j : IngestId) (c : Inc) (to : ℕ) (s : Stamp) → 0 < set.parts → IsHistory set h →
    IsSent set h j.0 c.0 to s → DeliverAnswers set h p j c to s

-- a report is never refused, and neither is a raise: it tells the agreed position that the event leaves
pub record RaiseAnswers (set : Setting) (h : List Event) (j : IngestId) : Type 0 where
  pub raised : (at : ℕ) → (outcome_of set h (event.Raise j) ≡ outcome.Raised at)
      ↔ ((agreed set h j.0 < agreed set (event.Raise j ∷ h) j.0) × (at ≡ agreed set (event.Raise j ∷ h) j.0))
  pub level : (at : ℕ) → (outcome_of set h (event.Raise j) ≡ outcome.Level at)
      ↔ ((agreed set (event.Raise j ∷ h) j.0 ≡ agreed set h j.0) × (at ≡ agreed set h j.0))

abbrev pub ReportLaw : Type 0
ReportLaw = (set : Setting) (h : List Event) (p : PartId) → outcome_of set h (event.Report p) ≡ outcome.Reported

abbrev pub RaiseLaw : Type 0
RaiseLaw = (set : Setting) (h : List Event) (j : IngestId) → 0 < set.parts → IsHistory set h → RaiseAnswers set h j

-- the least partition that never reported
pub record IsFirstUnreported (set : Setting) (h : List Event) (p : ℕ) : Type 0 where
  pub part : p < set.parts
  pub never : has_reported set h p ≡ false
  pub before : (q : ℕ) → q < p → has_reported set h q ≡ true

-- a cut waits for every partition to report
pub record CutAnswers (set : Setting) (h : List Event) (n : Option ℕ) : Type 0 where
  pub not_reported : (p : PartId) → (outcome_of set h (event.Cut n) ≡ outcome.Refused (refusal.NotReported p)) ↔ IsFirstUnreported set h p.0
  pub cut_made : (k : Epoch) → (outcome_of set h (event.Cut n) ≡ outcome.CutMade k)
      ↔ (((p : ℕ) → p < set.parts → has_reported set h p ≡ true) × (k.0 ≡ cuts set h + 1))

abbrev pub CutLaw : Type 0
CutLaw = (set : Setting) (h : List Event) (n : Option ℕ) → CutAnswers set h n

-- a partition commits the epoch after its last, if that is cut
pub record CommitAnswers (set : Setting) (h : List Event) (p : PartId) : Type 0 where
  pub nothing_cut : (outcome_of set h (event.Commit p) ≡ outcome.Refused refusal.NothingCut) ↔ (committed set h p.0 ≡ cuts set h)
  pub committed : (k : Epoch) → (outcome_of set h (event.Commit p) ≡ outcome.Committed k)
      ↔ ((committed set h p.0 < cuts set h) × (k.0 ≡ committed set h p.0 + 1))

abbrev pub CommitLaw : Type 0
CommitLaw = (set : Setting) (h : List Event) (p : PartId) → CommitAnswers set h p

-- the least partition that hasn't committed the epoch after the last mined one
pub record IsFirstUncommitted (set : Setting) (h : List Event) (p : ℕ) : Type 0 where
  pub part : p < set.parts
  pub behind : committed set h p ≤ mined set h
  pub before : (q : ℕ) → q < p → mined set h < committed set h q

-- the epoch after the last mined one is cut, and every partition has committed it
pub record IsNextReady (set : Setting) (h : List Event) : Type 0 where
  pub cut : mined set h < cuts set h
  pub each : (p : ℕ) → p < set.parts → mined set h < committed set h p

-- an epoch begins where none is open and the next one is ready
pub record BeginAnswers (set : Setting) (h : List Event) : Type 0 where
  pub busy : (k : Epoch) → (outcome_of set h event.Begin ≡ outcome.Refused (refusal.Busy k)) ↔ ((is_open set h ≡ true) × (k.0 ≡ mined set h + 1))
  pub nothing_cut : (outcome_of set h event.Begin ≡ outcome.Refused refusal.NothingCut) ↔ ((is_open set h ≡ false) × (mined set h ≡ cuts set h))
  pub not_committed : (p : PartId) → (outcome_of set h event.Begin ≡ outcome.Refused (refusal.NotCommitted p))
      ↔ ((is_open set h ≡ false) × (mined set h < cuts set h) × IsFirstUncommitted set h p.0)
  pub begun : (k : Epoch) → (outcome_of set h event.Begin ≡ outcome.Begun k) ↔ ((is_open set h ≡ false) × IsNextReady set h × (k.0 ≡ mined set h + 1))

abbrev pub BeginLaw : Type 0
BeginLaw = (set : Setting) (h : List Event) → BeginAnswers set h

-- an epoch is mined where the next one is ready, be it open or not
pub record MineAnswers (set : Setting) (h : List Event) : Type 0 where
  pub nothing_cut : (outcome_of set h event.Mine ≡ outcome.Refused refusal.NothingCut) ↔ (mined set h ≡ cuts set h)
  pub not_committed : (p : PartId) → (outcome_of set h event.Mine ≡ outcome.Refused (refusal.NotCommitted p))
      ↔ ((mined set h < cuts set h) × IsFirstUncommitted set h p.0)
  pub mined : (k : Epoch) → (outcome_of set h event.Mine ≡ outcome.Mined k) ↔ (IsNextReady set h × (k.0 ≡ mined set h + 1))

abbrev pub MineLaw : Type 0
MineLaw = (set : Setting) (h : List Event) → MineAnswers set h

-- a vertex has its turn where an epoch is open
pub record TurnAnswers (set : Setting) (h : List Event) (u : User) : Type 0 where
  pub not_begun : (outcome_of set h (event.Turn u) ≡ outcome.Refused refusal.NotBegun) ↔ (is_open set h ≡ false)
  pub turned : (outcome_of set h (event.Turn u) ≡ outcome.Turned) ↔ (is_open set h ≡ true)

abbrev pub TurnLaw : Type 0
TurnLaw = (set : Setting) (h : List Event) (u : User) → TurnAnswers set h u

-- a node that is down can't crash
pub record CrashAnswers (set : Setting) (h : List Event) (j : IngestId) : Type 0 where
  pub down : (outcome_of set h (event.Crash j) ≡ outcome.Refused refusal.Down) ↔ (up set h j.0 ≡ false)
  pub crashed : (outcome_of set h (event.Crash j) ≡ outcome.Crashed) ↔ (up set h j.0 ≡ true)

abbrev pub CrashLaw : Type 0
CrashLaw = (set : Setting) (h : List Event) (j : IngestId) → CrashAnswers set h j

-- a node that is up doesn't come back, nor one whose incarnation is the last one, 65535
pub record RestartAnswers (set : Setting) (h : List Event) (j : IngestId) : Type 0 where
  pub is_up : (outcome_of set h (event.Restart j) ≡ outcome.Refused refusal.Up) ↔ (up set h j.0 ≡ true)
  pub spent : (outcome_of set h (event.Restart j) ≡ outcome.Refused refusal.IncarnationsSpent) ↔ ((up set h j.0 ≡ false) × (inc set h j.0 ≡ 65535))
  pub restarted : (c : Inc) (base : ℕ) → (outcome_of set h (event.Restart j) ≡ outcome.Restarted c base)
      ↔ ((up set h j.0 ≡ false) × (inc set h j.0 < 65535) × (c.0 ≡ inc set h j.0 + 1) × (base ≡ agreed set h j.0))

abbrev pub RestartLaw : Type 0
RestartLaw = (set : Setting) (h : List Event) (j : IngestId) → RestartAnswers set h j
