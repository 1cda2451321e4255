-- The line that the trace writes of each outcome, in full.
use Rattle.std.specs.Prelude.{ℕ, ◌≡◌, List, ◌++◌, codes}
use Rattle.std.specs.Fmt.{decimal}
use Rattle.kin_ids.specs.declared.ids.Epoch.{Epoch}
use Rattle.kin_ids.specs.declared.ids.Inc.{Inc}
use Rattle.kin_ids.specs.declared.ids.PartId.{PartId}
use Rattle.kin_ids.specs.declared.stamps.Stamp.{Stamp}
use Rattle.kin_script.specs.declared.outcomes.Outcome.{Outcome}
use Rattle.kin_script.specs.declared.outcomes.Outcome.TheVariants as outcome
use Rattle.kin_script.specs.declared.outcomes.Refusal.TheVariants as refusal
use Rattle.kin_report.specs.Trace.{trace_text}

-- the line's number, and then this text
abbrev pub Shows : Outcome → List ℕ → Type 0
Shows told text = (n : ℕ) → trace_text n told ≡ codes "# " ++ decimal n ++ codes " " ++ text ++ codes "\n"

-- each outcome shows its word and all its values
pub record TraceTexts : Type 0 where
  pub stamped : (s : Stamp) → Shows (outcome.Stamped s) (codes "stamped " ++ decimal s.inc.0 ++ codes " " ++ decimal s.from ++ codes " " ++ decimal s.to)
  pub held : (top : ℕ) → Shows (outcome.Held top) (codes "held " ++ decimal top)
  pub early : (top : ℕ) → Shows (outcome.Early top) (codes "early " ++ decimal top)
  pub repeat : Shows outcome.Repeat (codes "repeat")
  pub stale : (c : Inc) → Shows (outcome.Stale c) (codes "stale " ++ decimal c.0)
  pub reported : Shows outcome.Reported (codes "reported")
  pub raised : (at : ℕ) → Shows (outcome.Raised at) (codes "raised " ++ decimal at)
  pub level : (at : ℕ) → Shows (outcome.Level at) (codes "level " ++ decimal at)
  pub cut_made : (k : Epoch) → Shows (outcome.CutMade k) (codes "epoch " ++ decimal k.0)
  pub committed : (k : Epoch) → Shows (outcome.Committed k) (codes "committed " ++ decimal k.0)
  pub begun : (k : Epoch) → Shows (outcome.Begun k) (codes "begun " ++ decimal k.0)
  pub turned : Shows outcome.Turned (codes "turned")
  pub mined : (k : Epoch) → Shows (outcome.Mined k) (codes "mined " ++ decimal k.0)
  pub crashed : Shows outcome.Crashed (codes "crashed")
  pub restarted : (c : Inc) (base : ℕ) → Shows (outcome.Restarted c base) (codes "restarted " ++ decimal c.0 ++ codes " " ++ decimal base)
  pub down : Shows (outcome.Refused refusal.Down) (codes "down")
  pub is_up : Shows (outcome.Refused refusal.Up) (codes "up")
  pub exhausted : Shows (outcome.Refused refusal.Exhausted) (codes "exhausted")
  pub not_sent : Shows (outcome.Refused refusal.NotSent) (codes "not-sent")
  pub not_reported : (p : PartId) → Shows (outcome.Refused (refusal.NotReported p)) (codes "not-reported " ++ decimal p.0)
  pub nothing_cut : Shows (outcome.Refused refusal.NothingCut) (codes "nothing-cut")
  pub not_committed : (p : PartId) → Shows (outcome.Refused (refusal.NotCommitted p)) (codes "not-committed " ++ decimal p.0)
  pub not_begun : Shows (outcome.Refused refusal.NotBegun) (codes "not-begun")
  pub busy : (k : Epoch) → Shows (outcome.Refused (refusal.Busy k)) (codes "busy " ++ decimal k.0)
  pub spent : Shows (outcome.Refused refusal.IncarnationsSpent) (codes "spent")
