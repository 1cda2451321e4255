use Rattle.std.proofs.Common.{◌≡◌, ◌<◌, ℕ, false, Some, None, length, slice_index_or, if◌then◌else◌}
use Rattle.kin_ids.specs.declared.ids.User.{User}
use Rattle.kin_pull.specs.States.{now_in}
use Rattle.kin_pull.proofs.begins.all_told.Given as goal

-- so far
abbrev pub invariant-loop-i : goal.invariant-loop-i
invariant-loop-i g l = record {
  long : length l.told.items ≡ l.i;
  each : (p : ℕ) (d : User) → p < l.i → slice_index_or l.told.items p None ≡ (if slice_index_or l.marks p false then Some
      (now_in l.users l.kept (slice_index_or l.more p d)) else None);
}
