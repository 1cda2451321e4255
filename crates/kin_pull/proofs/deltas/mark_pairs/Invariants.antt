use Rattle.std.proofs.Common.{◌≡◌, ◌||◌, true, length, take}
use Rattle.std.specs.List.{list_any}
use Rattle.kin_ids.specs.declared.ids.User.{User}
use Rattle.kin_ids.specs.Users.{has_user}
use Rattle.kin_changes.specs.Told.{is_of}
use Rattle.kin_pull.specs.Passes.{marked}
use Rattle.kin_pull.proofs.deltas.mark_pairs.Given as goal

-- so far
abbrev pub invariant-loop-pair : goal.invariant-loop-pair
invariant-loop-pair l = record {
  long : length l.marks.items ≡ length l.users;
  marks : (x : User) → has_user l.users x ≡ true → marked l.users l.marks.items x
      ≡ (marked l.users l.initial.marks.items x || list_any (is_of x) (take l.pair-index l.pairs));
}
