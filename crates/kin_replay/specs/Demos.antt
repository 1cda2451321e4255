-- The command `demo`: a job that is made from a number, its history, and what is printed of it.
use Rattle.std.specs.Prelude.{ℕ, ◌≤◌, true, List, [], ◌∷◌, ◌++◌, Option, Some, None, length, map, take, sum_by, count_by, codes}
use Rattle.std.specs.Fmt.{decimal}
use Rattle.kin_ids.specs.declared.ids.User.{User}
use Rattle.kin_ids.specs.declared.ops.Record.{Record}
use Rattle.kin_ids.specs.declared.options.DemoWords.{DemoWords}
use Rattle.kin_ids.specs.declared.options.OptionWords.{OptionWords}
use Rattle.kin_ids.specs.Operations.{is_bad}
use Rattle.kin_feed.specs.Records.{records_of}
use Rattle.kin_script.specs.declared.events.Event.{Event}
use Rattle.kin_history.specs.Setting.{Setting, after}
use Rattle.kin_history.specs.Vectors.{cuts}
use Rattle.kin_history.specs.Drain.{drain}
use Rattle.kin_gen.specs.Feeds.{gen_feeds}
use Rattle.kin_gen.specs.Rounds.{gen_events}
use Rattle.kin_io.specs.Outside.{Grew, GrewBySome}
use Rattle.kin_report.specs.Report.{block_after}
use Rattle.kin_words.specs.Commands.{AsksDemo}
use Rattle.kin_world.specs.Worlds.{WorldView}
use Rattle.kin_world.specs.Stands.{Stands}
use Rattle.kin_replay.specs.Plays.{StandsNear}
use Rattle.kin_replay.specs.Files.{Text}

-- the one landmark, user 0
abbrev pub demo_landmarks : List User
demo_landmarks = record { 0 = 0 } ∷ []

-- what its events run over: the generated feeds, and four partitions
abbrev pub demo_setting : DemoWords → Setting
demo_setting w = record { feeds = map records_of (gen_feeds w.seed w.records); parts = 4; landmarks = demo_landmarks }

-- the generated events, and then the drain
abbrev pub demo_events : DemoWords → List Event
demo_events w = gen_events w.seed w.records ++ drain (demo_setting w) (after [] (gen_events w.seed w.records))

abbrev pub demo_history : DemoWords → List Event
demo_history w = after [] (demo_events w)

-- how many epochs there are, and how many records of all feeds are Bad
abbrev pub demo_epochs : DemoWords → ℕ
demo_epochs w = cuts (demo_setting w) (demo_history w)

abbrev pub bad_of : List (List Record) → ℕ
bad_of feeds = sum_by (λ (feed : List Record). count_by is_bad feed) feeds

-- all rules, the landmark, and lists of ten
abbrev pub demo_options : OptionWords
demo_options = record {
  rules = record { ins = true; outs = true; said = true; tags = true; rank = true; expo = true; hops = true; close = true };
  landmarks = demo_landmarks;
  top = 10;
}

-- the first line, with the LF
abbrev pub demo_line : DemoWords → ℕ → ℕ → Text
demo_line w epochs bad =
    codes "demo seed " ++ decimal w.seed ++ codes " records " ++ decimal w.records ++ codes " epochs " ++ decimal epochs ++ codes " bad " ++ decimal bad ++ codes "\n"

-- what is printed: that line, and the block of the last epoch
abbrev pub demo_report : DemoWords → Text
demo_report w = demo_line w (demo_epochs w) (bad_of (demo_setting w).feeds) ++ block_after (demo_setting w) demo_options (demo_history w) (demo_epochs w)

-- the world stands for the history
abbrev pub StandsForDemo : DemoWords → Option WorldView → Type 0
StandsForDemo w None = ⊥
StandsForDemo w (Some world) = Stands (demo_setting w) world (demo_history w)

-- it stands for a front of it, or for that with a Begin, or there is none yet
abbrev pub StandsForDemoFront : DemoWords → Option WorldView → Type 0
StandsForDemoFront w None = Unit {0}
StandsForDemoFront w (Some world) = (n : ℕ) × (n ≤ length (demo_events w)) × StandsNear true (demo_setting w) world (after [] (take n (demo_events w)))

-- Done: all was written. Write: a prefix was.
abbrev pub DemoDone : DemoWords → Option Text → Option Text → Option WorldView → Type 0
DemoDone w old new world = Grew old new (demo_report w) × StandsForDemo w world

abbrev pub DemoUnwritten : DemoWords → Option Text → Option Text → Option WorldView → Type 0
DemoUnwritten w old new world = GrewBySome old new (demo_report w) × StandsForDemo w world

-- it holds of whatever the words ask for
abbrev pub ForDemo : List Text → (DemoWords → Type 0) → Type 0
ForDemo words Holds = (w : DemoWords) → AsksDemo words w → Holds w
