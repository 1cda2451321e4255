-- How runs end.
use Rattle.std.specs.Prelude.{ℕ, ◌≡◌, ◌≤◌, ◌⊎◌, Bool, true, false, List, [], Option, Some, None, length, take}
use Rattle.kin_ids.specs.declared.options.ReplayWords.{ReplayWords}
use Rattle.kin_ids.specs.declared.statuses.Status.{Status}
use Rattle.kin_ids.specs.declared.statuses.Status.TheVariants as status
use Rattle.kin_io.specs.Outside.{Grew, GrewBySome}
use Rattle.kin_history.specs.Setting.{after}
use Rattle.kin_report.specs.Report.{events_of}
use Rattle.kin_world.specs.Worlds.{WorldView}
use Rattle.kin_world.specs.Stands.{Stands}
use Rattle.kin_replay.specs.Jobs.{Job, run_of, history_of, report_of}
use Rattle.kin_replay.specs.Plays.{StandsNear}
use Rattle.kin_words.specs.Commands.{AsksReplay}
use Rattle.kin_replay.specs.Files.{Text, Contents, Files, Told, IsJob, names_of}

-- the world stands for the history of the whole run
abbrev pub StandsFor : Job → Option WorldView → Type 0
StandsFor j None = ⊥
StandsFor j (Some w) = Stands j.setting w (history_of j)

-- it stands for that of a front of the run, or, where memory was wanting, for that with a Begin
abbrev pub StandsForFront : Bool → Job → Option WorldView → Type 0
StandsForFront starved j None = ⊥
StandsForFront starved j (Some w) = (n : ℕ) × (n ≤ length (run_of j)) × StandsNear starved j.setting w (after [] (events_of (take n (run_of j))))

-- Done: all of the report was written, and the world stands for the history.
abbrev pub EndsDone : Job → Option (List ℕ) → Option (List ℕ) → Option WorldView → Type 0
EndsDone j old new w = Grew old new (report_of j) × StandsFor j w

-- Write: a prefix of the report was written, and the world stands for a front of the history.
abbrev pub EndsUnwritten : Job → Option (List ℕ) → Option (List ℕ) → Option WorldView → Type 0
EndsUnwritten j old new w = GrewBySome old new (report_of j) × StandsForFront false j w

-- Memory: the same, but that the world may stand for a Begin more; or nothing happened yet.
abbrev pub EndsStarved : Job → Option (List ℕ) → Option (List ℕ) → Option WorldView → Type 0
EndsStarved j old new None = new ≡ old
EndsStarved j old new (Some w) = GrewBySome old new (report_of j) × StandsForFront true j (Some w)

-- how the run of a job ends, by its status
abbrev pub JobEnds : Job → Option (List ℕ) → Option (List ℕ) → Status → Option WorldView → Type 0
JobEnds j old new status.Done w = EndsDone j old new w
JobEnds j old new status.Write w = EndsUnwritten j old new w
JobEnds j old new status.Memory w = EndsStarved j old new w
JobEnds j old new _ w = ⊥

-- so it ends, for the job that the words and the files ask for
abbrev pub Asked : ReplayWords → Files → (Job → Type 0) → Type 0
Asked w files Ends = (j : Job) × IsJob w files j × Ends j

-- it holds of whatever the shelf tells of the files that the words name
abbrev pub ForTold : Contents → ReplayWords → (Files → Type 0) → Type 0
ForTold content w Holds = (files : Files) → Told content (names_of w) files → Holds files

-- it holds of whatever the words ask for, and of whatever the shelf tells of the files that they name
abbrev pub ForAsked : List Text → Contents → (ReplayWords → Files → Type 0) → Type 0
ForAsked words content Holds = (w : ReplayWords) → AsksReplay words w → ForTold content w (Holds w)

-- it holds of the job that the words and the files ask for, whatever the shelf tells of them
abbrev pub ForJob : List Text → Contents → (Job → Type 0) → Type 0
ForJob words content Holds = ForAsked words content (λ w files. Asked w files Holds)

-- the same words and files ask for the same job
abbrev pub OneJobLaw : Type 0
OneJobLaw = (words : List Text) (v w : ReplayWords) (files : Files) (a b : Job) → AsksReplay words v → AsksReplay words w → IsJob v files a → IsJob w files b → a ≡ b

-- the status comes before the first event
abbrev pub is_early : Status → Bool
is_early status.Usage = true
is_early (status.Script n) = true
is_early status.Read = true
is_early (status.Limit q) = true
is_early _ = false

-- the status comes after the first event
abbrev pub has_run : Status → Bool
has_run status.Done = true
has_run status.Write = true
has_run _ = false

-- it is the one that words outside the language have, or want of memory
abbrev pub IsUsageOrMemory : Status → Type 0
IsUsageOrMemory s = (s ≡ status.Usage) ⊎ (s ≡ status.Memory)

-- it is the one of a run without a fault, or want of memory
abbrev pub IsDoneOrMemory : Status → Type 0
IsDoneOrMemory s = (s ≡ status.Done) ⊎ (s ≡ status.Memory)

-- it is this one, or want of memory
abbrev pub IsOrMemory : Status → Status → Type 0
IsOrMemory s now = (now ≡ s) ⊎ (now ≡ status.Memory)
