-- The drain: what a run does when its schedule has ended.
use Rattle.std.specs.Prelude.{ℕ, zero, suc, ◌-◌, nat_lt, Bool, true, false, List, [], ◌++◌, Option, Some, None, replicate}
use Rattle.kin_script.specs.declared.events.Event.{Event}
use Rattle.kin_script.specs.declared.events.Event.TheVariants as event
use Rattle.kin_history.specs.Setting.{Setting}
use Rattle.kin_history.specs.Vectors.{cuts, committed, uncommitted_part}
use Rattle.kin_history.specs.Mining.{mined}

-- a commit of this partition, if there is one, and else a Mine, if one is due
abbrev pub drain_event : Option ℕ → Bool → Option Event
drain_event (Some p) due = Some (event.Commit (record { 0 = p }))
drain_event None true = Some event.Mine
drain_event None false = None

module _ (set : Setting) where
  -- the first n partitions commit what is cut, the least first
  abbrev pub drain_commits : List Event → ℕ → List Event
  drain_commits h zero = []
  drain_commits h (suc p) = drain_commits h p ++ replicate (cuts set h - committed set h p) (event.Commit (record { 0 = p }))

  -- every partition commits what is cut, and every cut epoch is mined
  abbrev pub drain : List Event → List Event
  drain h = drain_commits h set.parts ++ replicate (cuts set h - mined set h) event.Mine

  -- the next event of the drain: the least partition that hasn't committed every cut commits; else a cut epoch that isn't mined is mined
  abbrev pub next_of_drain : List Event → Option Event
  next_of_drain h = drain_event (uncommitted_part set h (cuts set h)) (nat_lt (mined set h) (cuts set h))
