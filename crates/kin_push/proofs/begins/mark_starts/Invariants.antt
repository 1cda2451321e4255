use Rattle.std.proofs.Common.{◌≡◌, ◌||◌, ℕ, List, Option, length, take}
use Rattle.kin_ids.specs.declared.ids.User.{User}
use Rattle.kin_ids.specs.Users.{has_user}
use Rattle.kin_push.specs.States.{is_active, state}
use Rattle.kin_push.proofs.begins.mark_starts.Given as goal

pub record Kept (length_is so_far : Type 0) : Type 0 where
  pub marked : length_is
  pub active : so_far

-- the starts so far are active
abbrev pub invariant-loop-start : goal.invariant-loop-start
invariant-loop-start l =
    Kept (length l.active ≡ length l.users)
    ((values : List (Option ℕ)) (u : User) → is_active (state l.users values l.active) u ≡
    (is_active (state l.users values l.fn.active) u || has_user (take l.start-index l.starts) u))
