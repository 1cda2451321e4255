use Rattle.std.proofs.Common.{◌≡◌, ◌≤◌, ◌+◌, nat_eq, unwrap_or, take}
use Rattle.std.specs.HashMap.{get, spare}
use Rattle.kin_ids.specs.declared.ids.User.{User}
use Rattle.kin_changes.specs.Told.{pairs_of}
use Rattle.kin_counts.specs.Changes.{lowered}
use Rattle.kin_counts.specs.Tallies.{gone_on, listed}
use Rattle.kin_counts.proofs.tables.lower_all.Given as goal

abbrev pub invariant-loop-delta : goal.invariant-loop-delta
invariant-loop-delta l = record {
  numbers : (x : User) → unwrap_or (get nat_eq l.numbers x.0) 0
      ≡ lowered (pairs_of (gone_on l.side) (take l.delta-index l.deltas) x) (unwrap_or (get nat_eq l.initial.numbers x.0) 0);
  room : spare l.initial.numbers ≤ spare l.numbers + listed (gone_on l.side) (take l.delta-index l.deltas);
}
