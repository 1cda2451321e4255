-- The line that the trace writes of an outcome.
use Rattle.std.specs.Prelude.{ℕ, List, [], ◌∷◌, codes}
use Rattle.std.specs.Fmt.{decimal}
use Rattle.kin_script.specs.declared.outcomes.Outcome.{Outcome}
use Rattle.kin_script.specs.declared.outcomes.Refusal.{Refusal}
use Rattle.kin_script.specs.declared.outcomes.Outcome.TheVariants as outcome
use Rattle.kin_script.specs.declared.outcomes.Refusal.TheVariants as refusal
use Rattle.kin_report.specs.Text.{line_of}

abbrev pub refusal_words : Refusal → List (List ℕ)
refusal_words refusal.Down = codes "down" ∷ []
refusal_words refusal.Up = codes "up" ∷ []
refusal_words refusal.Exhausted = codes "exhausted" ∷ []
refusal_words refusal.NotSent = codes "not-sent" ∷ []
refusal_words (refusal.NotReported p) = codes "not-reported" ∷ decimal p.0 ∷ []
refusal_words refusal.NothingCut = codes "nothing-cut" ∷ []
refusal_words (refusal.NotCommitted p) = codes "not-committed" ∷ decimal p.0 ∷ []
refusal_words refusal.NotBegun = codes "not-begun" ∷ []
refusal_words (refusal.Busy k) = codes "busy" ∷ decimal k.0 ∷ []
refusal_words refusal.IncarnationsSpent = codes "spent" ∷ []

abbrev pub outcome_words : Outcome → List (List ℕ)
outcome_words (outcome.Stamped s) = codes "stamped" ∷ decimal s.inc.0 ∷ decimal s.from ∷ decimal s.to ∷ []
outcome_words (outcome.Held top) = codes "held" ∷ decimal top ∷ []
outcome_words (outcome.Early top) = codes "early" ∷ decimal top ∷ []
outcome_words outcome.Repeat = codes "repeat" ∷ []
outcome_words (outcome.Stale c) = codes "stale" ∷ decimal c.0 ∷ []
outcome_words outcome.Reported = codes "reported" ∷ []
outcome_words (outcome.Raised at) = codes "raised" ∷ decimal at ∷ []
outcome_words (outcome.Level at) = codes "level" ∷ decimal at ∷ []
outcome_words (outcome.CutMade k) = codes "epoch" ∷ decimal k.0 ∷ []
outcome_words (outcome.Committed k) = codes "committed" ∷ decimal k.0 ∷ []
outcome_words (outcome.Begun k) = codes "begun" ∷ decimal k.0 ∷ []
outcome_words outcome.Turned = codes "turned" ∷ []
outcome_words (outcome.Mined k) = codes "mined" ∷ decimal k.0 ∷ []
outcome_words outcome.Crashed = codes "crashed" ∷ []
outcome_words (outcome.Restarted c base) = codes "restarted" ∷ decimal c.0 ∷ decimal base ∷ []
outcome_words (outcome.Refused r) = refusal_words r

-- `# N TEXT`, N being the number of the event's line in the schedule
abbrev pub trace_text : ℕ → Outcome → List ℕ
trace_text number told = line_of (codes "#" ∷ decimal number ∷ outcome_words told)
