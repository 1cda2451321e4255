use Rattle.std.proofs.Common.{◌≡◌, ◌+◌, ◌&&◌, ◌||◌, nat_lt, true, length, take}
use Rattle.kin_ids.specs.declared.ids.User.{User}
use Rattle.kin_ids.specs.Users.{has_user}
use Rattle.kin_rules.specs.Places.{place}
use Rattle.kin_pull.specs.Passes.{AreRead, changes_in, is_shown, marked, read_of, was_read}
use Rattle.kin_pull.specs.States.{opposite}
use Rattle.kin_pull.proofs.showing.tell_all.Given as goal

-- who reads one of the users so far whose change shows is marked
abbrev pub invariant-loop-i : goal.invariant-loop-i
invariant-loop-i g l = record {
  outs : AreRead (opposite (g.R.PullRule.seen l.rule).side) (g.V.View.seen l.view) l.users l.outs;
  long : length l.marks.items ≡ length l.users;
  marks : (x : User) → marked l.users l.marks.items x ≡ (marked l.users l.initial.marks.items x || is_shown (g.R.PullRule.seen l.rule)
      (g.V.View.seen l.view) l.users l.kept l.fn.layer l.drawn (take l.i l.users) x);
  told : (x : User) → has_user l.users x ≡ true → was_read l.users l.outs x ≡ (was_read l.users l.initial.outs x
      || (nat_lt (place l.users x) l.i && changes_in (g.R.PullRule.seen l.rule) l.users l.kept l.fn.layer l.drawn x));
  reads : l.steps + read_of (opposite (g.R.PullRule.seen l.rule).side) (g.V.View.seen l.view) l.users l.initial.outs
      ≡ l.initial.steps + read_of (opposite (g.R.PullRule.seen l.rule).side) (g.V.View.seen l.view) l.users l.outs;
}
