use Rattle.std.proofs.Common.{◌≡◌, ◌||◌, true, length, take}
use Rattle.kin_ids.specs.declared.ids.User.{User}
use Rattle.kin_ids.specs.Users.{has_user}
use Rattle.kin_pull.specs.Begins.{is_touched}
use Rattle.kin_pull.specs.Passes.{marked}
use Rattle.kin_pull.proofs.deltas.mark_touched.Given as goal

-- so far
abbrev pub invariant-loop-delta : goal.invariant-loop-delta
invariant-loop-delta l = record {
  long : length l.marks.items ≡ length l.users;
  marks : (x : User) → has_user l.users x ≡ true → marked l.users l.marks.items x
      ≡ (marked l.users l.initial.marks.items x || is_touched (take l.delta-index l.deltas) x);
}
