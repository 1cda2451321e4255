use Rattle.std.proofs.Common.{◌≡◌, ◌&&◌, not, take}
use Rattle.kin_ids.specs.declared.ids.User.{User}
use Rattle.kin_ids.specs.Users.{has_user}
use Rattle.kin_changes.specs.Told.{are_told}
use Rattle.kin_changes.proofs.fresh.fresh_users.Given as goal

abbrev pub invariant-loop-delta : goal.invariant-loop-delta
invariant-loop-delta l = (u : User) → has_user l.fresh.items u ≡ (are_told (take l.delta-index l.deltas) u && not (has_user l.known u))
