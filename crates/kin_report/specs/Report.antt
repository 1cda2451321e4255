-- The report of a history.
use Rattle.std.specs.Prelude.{ℕ, Bool, true, List, [], ◌∷◌, ◌++◌, Option, Some, None}
use Rattle.kin_ids.specs.declared.options.OptionWords.{OptionWords}
use Rattle.kin_script.specs.declared.events.Event.{Event}
use Rattle.kin_script.specs.declared.events.Line.{Line}
use Rattle.kin_script.specs.declared.outcomes.Outcome.{Outcome}
use Rattle.kin_script.specs.declared.outcomes.Outcome.TheVariants as outcome
use Rattle.kin_history.specs.Setting.{Setting, after}
use Rattle.kin_history.specs.Lines.{line}
use Rattle.kin_history.specs.Vectors.{vector}
use Rattle.kin_history.specs.Outcomes.{outcome_of}
use Rattle.kin_history.specs.Drain.{drain}
use Rattle.kin_report.specs.Trace.{trace_text}
use Rattle.kin_report.specs.Epochs.{block}

-- An event of a run: one of the schedule has the number of its line, one of the drain has none.
pub record Ran : Type 0 where
  pub number : Option ℕ
  pub event : Event

abbrev pub events_of : List Ran → List Event
events_of [] = []
events_of (r ∷ rs) = r.event ∷ events_of rs

-- the trace line of an event of the schedule
abbrev pub traced : Bool → Option ℕ → Outcome → List ℕ
traced true (Some number) told = trace_text number told
traced _ _ told = []

-- the block of an epoch that an event mined
abbrev pub mined_block : (ℕ → List ℕ) → Outcome → List ℕ
mined_block block_of (outcome.Mined k) = block_of k.0
mined_block block_of _ = []

-- what the events of a run print in turn, after a history
abbrev pub printed : Setting → Bool → (ℕ → List ℕ) → List Event → List Ran → List ℕ
printed set trace block_of h [] = []
printed set trace block_of h (r ∷ rs) =
    (traced trace r.number (outcome_of set h r.event) ++ mined_block block_of (outcome_of set h r.event))
    ++ printed set trace block_of (r.event ∷ h) rs

-- the block of epoch k by the lines and the vectors of a history
abbrev pub block_after : Setting → OptionWords → List Event → ℕ → List ℕ
block_after set options h k = block set.feeds (line set h) (vector set h) options k

-- the report of a run: each block is that of the lines and vectors of the whole history
abbrev pub report : Setting → OptionWords → Bool → List Ran → List ℕ
report set options trace run = printed set trace (block_after set options (after [] (events_of run))) [] run

abbrev pub scheduled : List Line → List Ran
scheduled [] = []
scheduled (l ∷ ls) = record { number = Some l.number; event = l.event } ∷ scheduled ls

abbrev pub drained : List Event → List Ran
drained [] = []
drained (e ∷ es) = record { number = None; event = e } ∷ drained es

-- a schedule is run, and then the drain
abbrev pub whole_run : Setting → List Line → List Ran
whole_run set lines = scheduled lines ++ drained (drain set (after [] (events_of (scheduled lines))))
