use Rattle.std.proofs.Common.{◌≡◌, true, take}
use Rattle.kin_ids.specs.declared.ids.User.{User}
use Rattle.kin_ids.specs.Users.{has_user}
use Rattle.kin_push.specs.Closed.{IsClosedAt}
use Rattle.kin_push.proofs.settle_tests.is_closed.Given as goal

-- the edges out of the users so far lead to users
abbrev pub invariant-loop-user : goal.invariant-loop-user
invariant-loop-user g l = (w : User) → has_user (take l.user-index l.users) w ≡ true → IsClosedAt (g.V.View.seen l.view) l.users w
