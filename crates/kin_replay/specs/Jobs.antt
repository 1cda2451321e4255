-- What a run of the command is over, its history, and what it prints.
use Rattle.std.specs.Prelude.{ℕ, ◌≡◌, ◌<◌, ◌≤◌, Bool, List, [], All, length, sum_by}
use Rattle.kin_ids.specs.declared.ops.Record.{Record}
use Rattle.kin_ids.specs.declared.options.OptionWords.{OptionWords}
use Rattle.kin_script.specs.declared.events.Event.{Event}
use Rattle.kin_script.specs.declared.events.Line.{Line}
use Rattle.kin_history.specs.Setting.{Setting, IsEvent, after}
use Rattle.kin_report.specs.Report.{Ran, events_of, report, whole_run}

-- the feeds, partitions and landmarks; what is printed; and the events of the schedule with the numbers of their lines
pub record Job : Type 0 where
  pub setting : Setting
  pub options : OptionWords
  pub trace : Bool
  pub lines : List Line

-- its run: the schedule, and then the drain
abbrev pub run_of : Job → List Ran
run_of j = whole_run j.setting j.lines

-- the history of its run
abbrev pub history_of : Job → List Event
history_of j = after [] (events_of (run_of j))

-- what its run prints
abbrev pub report_of : Job → List ℕ
report_of j = report j.setting j.options j.trace (run_of j)

-- what a run needs: feeds, partitions, landmarks and lines within their limits, and events in range
pub record IsReady (j : Job) : Type 0 where
  pub some_feeds : 0 < length j.setting.feeds
  pub few_feeds : length j.setting.feeds ≤ 16
  pub few_records : sum_by (λ (feed : List Record). length feed) j.setting.feeds ≤ 2097152
  pub some_parts : 0 < j.setting.parts
  pub few_parts : j.setting.parts ≤ 64
  pub few_landmarks : length j.setting.landmarks ≤ 16
  pub landmarks : j.options.landmarks ≡ j.setting.landmarks
  pub few_lines : length j.lines ≤ 1048576
  pub events : All (λ (line : Line). IsEvent j.setting line.event) j.lines
