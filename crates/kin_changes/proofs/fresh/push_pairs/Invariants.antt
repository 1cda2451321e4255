use Rattle.std.proofs.Common.{◌≡◌, ◌||◌, ◌&&◌, not, take}
use Rattle.std.specs.List.{list_any}
use Rattle.kin_ids.specs.declared.ids.User.{User}
use Rattle.kin_ids.specs.Users.{has_user}
use Rattle.kin_changes.specs.Told.{is_of}
use Rattle.kin_changes.proofs.fresh.push_pairs.Given as goal

abbrev pub invariant-loop-pair : goal.invariant-loop-pair
invariant-loop-pair l = (u : User) → has_user l.fresh.items u ≡
    (has_user l.initial.fresh.items u || (list_any (is_of u) (take l.pair-index l.pairs) && not (has_user l.known u)))
