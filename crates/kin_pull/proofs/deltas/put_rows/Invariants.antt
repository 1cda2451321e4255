use Rattle.std.proofs.Common.{◌≡◌, true, length, take, map, filter}
use Rattle.kin_ids.specs.declared.ids.User.{User}
use Rattle.kin_ids.specs.Users.{has_user, same_user}
use Rattle.kin_pull.specs.Plans.{facts_at, with_uses}
use Rattle.kin_pull.proofs.deltas.put_rows.Given as goal

-- so far
abbrev pub invariant-loop-row : goal.invariant-loop-row
invariant-loop-row l = record {
  long : length l.facts.items ≡ length l.users;
  facts : (x : User) → has_user l.users x ≡ true → facts_at l.users l.facts.items x
      ≡ with_uses (map (λ row. row.entry) (filter (λ row. same_user x row.user) (take l.row-index l.rows)))
      (facts_at l.users l.initial.facts.items x);
}
