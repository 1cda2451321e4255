use Rattle.std.proofs.Common.{◌≡◌, ◌≤◌, ◌+◌, nat_eq, unwrap_or, count_by, take}
use Rattle.std.specs.HashMap.{get, spare}
use Rattle.kin_ids.specs.declared.ids.User.{User}
use Rattle.kin_changes.specs.Told.{is_of}
use Rattle.kin_counts.specs.Changes.{lowered}
use Rattle.kin_counts.proofs.tables.lower_pairs.Given as goal

abbrev pub invariant-loop-pair : goal.invariant-loop-pair
invariant-loop-pair l = record {
  numbers : (x : User) → unwrap_or (get nat_eq l.numbers x.0) 0
      ≡ lowered (count_by (is_of x) (take l.pair-index l.pairs)) (unwrap_or (get nat_eq l.initial.numbers x.0) 0);
  room : spare l.initial.numbers ≤ spare l.numbers + l.pair-index;
}
