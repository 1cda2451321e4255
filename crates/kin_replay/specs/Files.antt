-- What the words and the files that they name ask for, and why they are refused.
use Rattle.std.specs.Prelude.{ℕ, ◌≡◌, ◌<◌, ◌≤◌, ◌⊎◌, Bool, true, false, List, [], ◌∷◌, ◌++◌, All, Option, Some, length, map, sum_by}
use Rattle.kin_ids.specs.declared.ops.Record.{Record}
use Rattle.kin_ids.specs.declared.options.ReplayWords.{ReplayWords}
use Rattle.kin_ids.specs.declared.statuses.Status.{Status}
use Rattle.kin_ids.specs.declared.statuses.Status.TheVariants as status
use Rattle.kin_ids.specs.declared.statuses.Which.{Which}
use Rattle.kin_ids.specs.declared.statuses.Which.TheVariants as which
use Rattle.kin_line.specs.Lines.{lines}
use Rattle.kin_feed.specs.Records.{records_of}
use Rattle.kin_script.specs.Schedules.{IsScript, IsFirstOutside}
use Rattle.kin_io.specs.Outside.{Rose}
use Rattle.kin_replay.specs.Jobs.{Job}

abbrev pub Text : Type 0
Text = List ℕ

-- bytes by name
abbrev pub Files : Type 0
Files = Text → List ℕ

-- the bytes of a name, where the shelf tells them; how often calls on a name failed
abbrev pub Contents : Type 0
Contents = Text → Option (List ℕ)

abbrev pub Faults : Type 0
Faults = Text → ℕ

-- the files that the words name: the feeds in order, and then the schedule
abbrev pub names_of : ReplayWords → List Text
names_of w = w.feeds ++ w.script ∷ []

-- the shelf tells these bytes of each of the names
abbrev pub Told : Contents → List Text → Files → Type 0
Told content names files = All (λ name. content name ≡ Some (files name)) names

-- some read of one of the names failed
abbrev pub SomeRose : Faults → Faults → List Text → Type 0
SomeRose before now [] = ⊥
SomeRose before now (name ∷ names) = Rose (before name) (now name) ⊎ SomeRose before now names

-- no read of any of the names failed
abbrev pub NoneRose : Faults → Faults → List Text → Type 0
NoneRose before now names = All (λ name. Rose (before name) (now name) → ⊥) names

-- the records of the feeds
abbrev pub feeds_in : Files → List Text → List (List Record)
feeds_in files names = map records_of (map files names)

-- how many bytes the feeds have together, and how many records
abbrev pub feed_bytes : Files → List Text → ℕ
feed_bytes files names = sum_by (λ (f : List ℕ). length f) (map files names)

abbrev pub feed_records : Files → List Text → ℕ
feed_records files names = sum_by (λ (f : List Record). length f) (feeds_in files names)

-- The job that the words and the files ask for: the feeds by their records, and the events of the schedule.
pub record IsJob (w : ReplayWords) (files : Files) (j : Job) : Type 0 where
  pub feeds : j.setting.feeds ≡ feeds_in files w.feeds
  pub parts : j.setting.parts ≡ w.parts
  pub landmarks : j.setting.landmarks ≡ w.options.landmarks
  pub options : j.options ≡ w.options
  pub trace : j.trace ≡ w.trace
  pub lines : IsScript (length w.feeds) w.parts (files w.script) j.lines

-- the feeds of these names are within their limits
pub record FeedsFit (names : List Text) (files : Files) : Type 0 where
  pub bytes : feed_bytes files names ≤ 33554432
  pub records : feed_records files names ≤ 2097152

-- the feeds are within their limits, and so is the schedule
pub record FilesFit (w : ReplayWords) (files : Files) : Type 0 where
  pub feeds : FeedsFit w.feeds files
  pub bytes : length (files w.script) ≤ 33554432
  pub lines : length (lines (files w.script)) ≤ 1048576

-- The quantity is the first that passes its limit.
abbrev pub IsPast : ReplayWords → Files → Which → Type 0
IsPast w files which.FeedBytes = 33554432 < feed_bytes files w.feeds
IsPast w files which.Records = (feed_bytes files w.feeds ≤ 33554432) × (2097152 < feed_records files w.feeds)
IsPast w files which.ScriptBytes = FeedsFit w.feeds files × (33554432 < length (files w.script))
IsPast w files which.ScriptLines = FeedsFit w.feeds files × (length (files w.script) ≤ 33554432) × (1048576 < length (lines (files w.script)))

-- The status tells why the files are refused: a quantity passes its limit, or else a line of the schedule is the first outside its language.
abbrev pub IsRefused : ReplayWords → Files → Status → Type 0
IsRefused w files (status.Limit q) = IsPast w files q
IsRefused w files (status.Script n) = FilesFit w files × IsFirstOutside (length w.feeds) w.parts (files w.script) n
IsRefused w files _ = ⊥

-- the status is a refusal of files
abbrev pub is_refusal : Status → Bool
is_refusal (status.Limit q) = true
is_refusal (status.Script n) = true
is_refusal _ = false
