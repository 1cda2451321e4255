use Rattle.std.proofs.Common.{◌≡◌, true, length, take, count_by}
use Rattle.kin_ids.specs.declared.ids.User.{User}
use Rattle.kin_ids.specs.Users.{has_user}
use Rattle.kin_changes.specs.Told.{is_of}
use Rattle.kin_pull.specs.Plans.{facts_at, with_more}
use Rattle.kin_pull.proofs.deltas.add_pairs.Given as goal

-- so far
abbrev pub invariant-loop-pair : goal.invariant-loop-pair
invariant-loop-pair l = record {
  long : length l.facts.items ≡ length l.users;
  facts : (x : User) → has_user l.users x ≡ true → facts_at l.users l.facts.items x
      ≡ with_more (count_by (is_of x) (take l.pair-index l.pairs)) (facts_at l.users l.initial.facts.items x);
}
