-- Why files could not be read.
use Rattle.std.specs.Prelude.{ℕ, ◌≡◌, ◌<◌, ◌≤◌, List, length}
use Rattle.kin_ids.specs.declared.options.ReplayWords.{ReplayWords}
use Rattle.kin_ids.specs.declared.statuses.Which.{Which}
use Rattle.kin_ids.specs.declared.statuses.Which.TheVariants as which
use Rattle.kin_ids.specs.declared.statuses.Status.{Status}
use Rattle.kin_ids.specs.declared.statuses.Status.TheVariants as status
use Rattle.kin_line.specs.Lines.{lines}
use Rattle.kin_script.specs.Schedules.{IsFirstOutside}
use Rattle.kin_replay.specs.Files.{Text, Files, FilesFit, IsPast, feed_bytes, feed_records}
use Rattle.kin_replay.specs.declared.refusals.Refusal.{Refusal}
use Rattle.kin_replay.specs.declared.refusals.Refusal.TheVariants as refusal

-- the status of a run that it ended
abbrev pub status_of : Refusal → Status
status_of refusal.Read = status.Read
status_of (refusal.Limit q) = status.Limit q
status_of (refusal.Script n) = status.Script n
status_of refusal.Memory = status.Memory

-- it may come of a load by which this quantity passes its limit
abbrev pub IsOfLoad : Which → Refusal → Type 0
IsOfLoad q refusal.Read = Unit {0}
IsOfLoad q (refusal.Limit p) = p ≡ q
IsOfLoad q (refusal.Script n) = ⊥
IsOfLoad q refusal.Memory = Unit {0}

-- it may come of reading the records of feeds
abbrev pub IsOfRecords : Refusal → Type 0
IsOfRecords (refusal.Limit p) = p ≡ which.Records
IsOfRecords refusal.Memory = Unit {0}
IsOfRecords _ = ⊥

-- a quantity of the schedule passes its limit
abbrev pub IsPastScript : Which → List ℕ → Type 0
IsPastScript which.ScriptBytes file = 33554432 < length file
IsPastScript which.ScriptLines file = (length file ≤ 33554432) × (1048576 < length (lines file))
IsPastScript _ file = ⊥

-- it comes of a schedule with these bytes
abbrev pub IsOfScript : ℕ → ℕ → Refusal → List ℕ → Type 0
IsOfScript nodes parts refusal.Read file = Unit {0}
IsOfScript nodes parts (refusal.Limit q) file = IsPastScript q file
IsOfScript nodes parts (refusal.Script n) file = (length file ≤ 33554432) × (length (lines file) ≤ 1048576) × IsFirstOutside nodes parts file n
IsOfScript nodes parts refusal.Memory file = Unit {0}

-- it comes of the feeds of these names
abbrev pub IsOfFeeds : List Text → Files → Refusal → Type 0
IsOfFeeds names files refusal.Read = Unit {0}
IsOfFeeds names files (refusal.Limit which.FeedBytes) = 33554432 < feed_bytes files names
IsOfFeeds names files (refusal.Limit which.Records) = (feed_bytes files names ≤ 33554432) × (2097152 < feed_records files names)
IsOfFeeds names files (refusal.Limit q) = ⊥
IsOfFeeds names files (refusal.Script n) = ⊥
IsOfFeeds names files refusal.Memory = Unit {0}

-- it comes of the files that the words name
abbrev pub IsOfFiles : ReplayWords → Files → Refusal → Type 0
IsOfFiles w files refusal.Read = Unit {0}
IsOfFiles w files (refusal.Limit q) = IsPast w files q
IsOfFiles w files (refusal.Script n) = FilesFit w files × IsFirstOutside (length w.feeds) w.parts (files w.script) n
IsOfFiles w files refusal.Memory = Unit {0}
