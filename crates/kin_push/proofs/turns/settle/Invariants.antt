use Rattle.std.proofs.Common.{◌≡◌, ◌≤◌, ◌+◌}
use Rattle.kin_push.specs.Facts.{On, to_read, to_turn}
use Rattle.kin_push.specs.States.{IsPushState, IsQuiet, state}
use Rattle.kin_push.specs.Turns.{IsRun}
use Rattle.kin_push.proofs.turns.settle.Given as goal

pub record Kept (is on turns reads quiet : Type 0) : Type 0 where
  pub state_is : is
  pub stands : on
  pub run : turns
  pub paid : reads
  pub stays : quiet

abbrev pub invariant-loop-u : goal.invariant-loop-u
invariant-loop-u g l =
    Kept (IsPushState (state l.users l.values l.active)) (On (g.R.PushRule.seen l.rule) (g.V.View.seen l.view)
    (state l.users l.values l.active))
    (IsRun (g.R.PushRule.seen l.rule) (g.V.View.seen l.view) (state l.users l.fn.values l.fn.active) (state l.users l.values l.active))
    (l.steps + to_read (g.R.PushRule.seen l.rule) (g.V.View.seen l.view) (state l.users l.values l.active) ≤ l.fn.steps + to_read
    (g.R.PushRule.seen l.rule) (g.V.View.seen l.view) (state l.users l.fn.values l.fn.active))
    (IsQuiet (state l.users l.fn.values l.fn.active) → (l.values ≡ l.fn.values) × (l.active ≡ l.fn.active) × (l.steps ≡ l.fn.steps))

-- how many turns may still come
abbrev pub decreases-loop-u : goal.decreases-loop-u
decreases-loop-u g l = to_turn (g.R.PushRule.seen l.rule) (g.V.View.seen l.view) (state l.users l.values l.active)
