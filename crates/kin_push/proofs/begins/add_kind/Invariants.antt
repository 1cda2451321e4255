use Rattle.std.proofs.Common.{◌≡◌, ◌||◌, take}
use Rattle.kin_ids.specs.declared.ids.User.{User}
use Rattle.kin_ids.specs.Users.{has_user}
use Rattle.kin_push.specs.Begins.{adds_of}
use Rattle.kin_push.proofs.begins.add_kind.Given as goal

-- the starts of the deltas so far
abbrev pub invariant-loop-delta : goal.invariant-loop-delta
invariant-loop-delta g l = (u : User) → has_user l.starts.items u ≡
    (has_user l.fn.starts.items u || adds_of (take l.delta-index l.deltas) l.kind u)
