use Rattle.std.proofs.Common.{◌≡◌, true, length, take}
use Rattle.kin_ids.specs.declared.ids.User.{User}
use Rattle.kin_ids.specs.Users.{has_user}
use Rattle.kin_pull.specs.Begins.{uses_told}
use Rattle.kin_pull.specs.Plans.{facts_at, with_uses}
use Rattle.kin_pull.proofs.deltas.put_all.Given as goal

-- so far
abbrev pub invariant-loop-delta : goal.invariant-loop-delta
invariant-loop-delta l = record {
  long : length l.facts.items ≡ length l.users;
  facts : (x : User) → has_user l.users x ≡ true → facts_at l.users l.facts.items x
      ≡ with_uses (uses_told (take l.delta-index l.deltas) x) (facts_at l.users l.initial.facts.items x);
}
