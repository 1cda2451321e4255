use Rattle.std.proofs.Common.{◌≡◌, ◌≤◌, ◌+◌, cond, nat_eq, unwrap_or, take}
use Rattle.std.specs.HashMap.{get, spare}
use Rattle.kin_ids.specs.declared.ids.User.{User}
use Rattle.std.specs.List.{sum_by}
use Rattle.kin_ids.specs.Users.{same_user}
use Rattle.kin_graph.specs.declared.deltas.SaidRow.{SaidRow}
use Rattle.kin_counts.specs.Changes.{raised}
use Rattle.kin_counts.proofs.tables.raise_said.Given as goal

abbrev pub invariant-loop-row : goal.invariant-loop-row
invariant-loop-row l = record {
  numbers : (x : User) → unwrap_or (get nat_eq l.numbers x.0) 0
      ≡ raised (sum_by (λ (r : SaidRow). cond (same_user x r.user) r.number 0) (take l.row-index l.rows))
      (unwrap_or (get nat_eq l.initial.numbers x.0) 0);
  room : spare l.initial.numbers ≤ spare l.numbers + l.row-index;
}
