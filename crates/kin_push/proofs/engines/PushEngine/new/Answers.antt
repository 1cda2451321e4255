use Rattle.std.proofs.Common.{sym, subst}
use Rattle.kin_push.specs.States.{IsPushState}
use Rattle.kin_push.proofs.EngineParts.{empty-state}
use Rattle.kin_push.proofs.engines.PushEngine.new.Goals as goal

pub invariant_of-result : goal.invariant_of-result
invariant_of-result g c = subst IsPushState (sym c.in_ok-columns.ensures) empty-state
