use Rattle.std.proofs.Common.{◌≡◌, ◌||◌, ◌&&◌, not, take}
use Rattle.std.specs.List.{list_any}
use Rattle.kin_ids.specs.declared.ids.User.{User}
use Rattle.kin_ids.specs.Users.{has_user, same_user}
use Rattle.kin_graph.specs.declared.deltas.UseRow.{UseRow}
use Rattle.kin_changes.proofs.fresh.push_uses.Given as goal

abbrev pub invariant-loop-row : goal.invariant-loop-row
invariant-loop-row l = (u : User) → has_user l.fresh.items u ≡
    (has_user l.initial.fresh.items u || (list_any (λ (x : UseRow). same_user u x.user) (take l.row-index l.uses)
    && not (has_user l.known u)))
