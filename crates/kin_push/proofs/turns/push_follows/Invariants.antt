use Rattle.std.proofs.Common.{map}
use Rattle.kin_store.specs.Lists.{half_key}
use Rattle.kin_push.specs.States.{IsPushState, is_active, state, value_in}
use Rattle.kin_push.proofs.Offers.{Offering}
use Rattle.kin_push.proofs.turns.push_follows.Given as goal

pub record Kept (is so_far : Type 0) : Type 0 where
  pub state_is : is
  pub offering : so_far

-- the ends so far have been offered the value
abbrev pub invariant-loop-half : goal.invariant-loop-half
invariant-loop-half g l =
    Kept (IsPushState (state l.users l.values l.active))
    (Offering (map half_key l.halves) (map half_key l.half-iterator) l.value (value_in (state l.users l.fn.values l.fn.active))
    (is_active (state l.users l.fn.values l.fn.active)) (value_in (state l.users l.values l.active))
    (is_active (state l.users l.values l.active)))
