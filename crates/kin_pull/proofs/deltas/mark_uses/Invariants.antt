use Rattle.std.proofs.Common.{◌≡◌, ◌||◌, true, length, take}
use Rattle.std.specs.List.{list_any}
use Rattle.kin_ids.specs.declared.ids.User.{User}
use Rattle.kin_ids.specs.Users.{has_user, same_user}
use Rattle.kin_pull.specs.Passes.{marked}
use Rattle.kin_pull.proofs.deltas.mark_uses.Given as goal

-- so far
abbrev pub invariant-loop-row : goal.invariant-loop-row
invariant-loop-row l = record {
  long : length l.marks.items ≡ length l.users;
  marks : (x : User) → has_user l.users x ≡ true → marked l.users l.marks.items x
      ≡ (marked l.users l.initial.marks.items x || list_any (λ row. same_user x row.user) (take l.row-index l.rows));
}
