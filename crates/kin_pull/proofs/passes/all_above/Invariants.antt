use Rattle.std.proofs.Common.{◌≡◌, ◌<◌, ◌+◌, ◌&&◌, ◌||◌, nat_lt, ℕ, Some, None, true, false, length, slice_index_or, if◌then◌else◌}
use Rattle.kin_ids.specs.declared.ids.User.{User}
use Rattle.kin_ids.specs.Users.{has_user}
use Rattle.kin_rules.specs.Places.{place}
use Rattle.kin_pull.specs.Passes.{AreRead, above_in, marked, read_of, was_read}
use Rattle.kin_pull.proofs.passes.all_above.Given as goal

-- the values so far
abbrev pub invariant-loop-i : goal.invariant-loop-i
invariant-loop-i g l = record {
  ins : AreRead (g.R.PullRule.seen l.rule).side (g.V.View.seen l.view) l.users l.ins;
  long : length l.values.items ≡ l.i;
  each : (p : ℕ) (d : User) → p < l.i → slice_index_or l.values.items p None
      ≡ (if slice_index_or l.marks p false then Some (above_in (g.R.PullRule.seen l.rule)
      (g.V.View.seen l.view) l.users l.kept l.fn.layer l.drawn (slice_index_or l.users p d)) else None);
  computed : (x : User) → has_user l.users x ≡ true → was_read l.users l.ins x ≡ (was_read l.users l.initial.ins x
      || (nat_lt (place l.users x) l.i && marked l.users l.marks x));
  reads : l.steps + read_of (g.R.PullRule.seen l.rule).side (g.V.View.seen l.view) l.users l.initial.ins
      ≡ l.initial.steps + read_of (g.R.PullRule.seen l.rule).side (g.V.View.seen l.view) l.users l.ins;
}
