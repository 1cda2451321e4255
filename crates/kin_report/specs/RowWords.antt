-- Words in which worked rows are written.
use Rattle.std.specs.Prelude.{ℕ, ◌+◌, ◌++◌, Bool, true, false, List, [], ◌∷◌, Some, None}
use Rattle.kin_ids.specs.declared.ids.User.{User}
use Rattle.kin_ids.specs.declared.options.RuleSet.{RuleSet}
use Rattle.kin_ids.specs.declared.ops.Item.{Item}
use Rattle.kin_ids.specs.declared.ops.Item.TheVariants as item
use Rattle.kin_ids.specs.declared.ops.Record.{Record}
use Rattle.kin_ids.specs.declared.ops.Record.TheVariants as content
use Rattle.kin_script.specs.declared.events.Event.{Event}
use Rattle.kin_script.specs.declared.events.Event.TheVariants as event
use Rattle.kin_script.specs.declared.events.Line.{Line}
use Rattle.kin_history.specs.Setting.{Setting}
use Rattle.kin_report.specs.Report as reports

-- records by numbers
abbrev pub user : ℕ → User
user n = record { 0 = n }

abbrev pub follow : ℕ → ℕ → Record
follow u v = content.Follow (user u) (user v)

abbrev pub unfollow : ℕ → ℕ → Record
unfollow u v = content.Unfollow (user u) (user v)

abbrev pub tweet : ℕ → List Item → Record
tweet u items = content.Tweet (user u) items

abbrev pub at : ℕ → Item
at w = item.At (user w)

abbrev pub tagged : List ℕ → Item
tagged t = item.Hash t

abbrev pub bad : Record
bad = content.Bad

-- events by numbers
abbrev pub stamp : ℕ → ℕ → Event
stamp i n = event.Stamp (record { 0 = i }) n

abbrev pub deliver : ℕ → ℕ → ℕ → ℕ → Event
deliver p i c to = event.Deliver (record { 0 = p }) (record { 0 = i }) (record { 0 = c }) to

abbrev pub report : ℕ → Event
report p = event.Report (record { 0 = p })

abbrev pub raise : ℕ → Event
raise i = event.Raise (record { 0 = i })

abbrev pub cut : Event
cut = event.Cut None

abbrev pub cut_after : ℕ → Event
cut_after n = event.Cut (Some n)

abbrev pub commit : ℕ → Event
commit p = event.Commit (record { 0 = p })

abbrev pub begin : Event
begin = event.Begin

abbrev pub turn : ℕ → Event
turn u = event.Turn (user u)

abbrev pub mine : Event
mine = event.Mine

abbrev pub crash : ℕ → Event
crash i = event.Crash (record { 0 = i })

abbrev pub restart : ℕ → Event
restart i = event.Restart (record { 0 = i })

-- which rules are printed
abbrev pub all_rules : RuleSet
all_rules = record { ins = true; outs = true; said = true; tags = true; rank = true; expo = true; hops = true; close = true }

abbrev pub no_rules : RuleSet
no_rules = record { ins = false; outs = false; said = false; tags = false; rank = false; expo = false; hops = false; close = false }

abbrev pub setting : List (List Record) → ℕ → List User → Setting
setting feeds parts landmarks = record { feeds = feeds; parts = parts; landmarks = landmarks }

-- the lines of a schedule, from this number on
abbrev pub lines_from : ℕ → List Event → List Line
lines_from n [] = []
lines_from n (e ∷ es) = record { number = n; event = e } ∷ lines_from (n + 1) es

-- what a schedule prints with top lists of this length, and of ten
abbrev pub prints_top : ℕ → Setting → RuleSet → Bool → List Event → List ℕ
prints_top top set rules trace events =
    reports.report set (record { rules = rules; landmarks = set.landmarks; top = top }) trace (reports.whole_run set (lines_from 1 events))

abbrev pub prints : Setting → RuleSet → Bool → List Event → List ℕ
prints set rules trace events = prints_top 10 set rules trace events

-- lines, each ended with LF
abbrev pub text : List (List ℕ) → List ℕ
text [] = []
text (l ∷ ls) = l ++ 10 ∷ text ls
