use Rattle.std.proofs.Common.{◌≡◌, ◌||◌, take}
use Rattle.std.specs.List.{list_any}
use Rattle.kin_ids.specs.declared.ids.User.{User}
use Rattle.kin_ids.specs.Users.{has_user}
use Rattle.kin_changes.specs.Told.{is_of}
use Rattle.kin_push.proofs.begins.add_starts.Given as goal

-- the starts of the pairs so far
abbrev pub invariant-loop-pair : goal.invariant-loop-pair
invariant-loop-pair l = (u : User) → has_user l.starts.items u ≡
    (has_user l.fn.starts.items u || list_any (is_of u) (take l.pair-index l.pairs))
