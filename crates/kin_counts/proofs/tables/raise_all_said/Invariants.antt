use Rattle.std.proofs.Common.{◌≡◌, ◌≤◌, ◌+◌, nat_eq, unwrap_or, take}
use Rattle.std.specs.HashMap.{get, spare}
use Rattle.kin_ids.specs.declared.ids.User.{User}
use Rattle.kin_graph.specs.Deltas.{DeltaLists}
use Rattle.kin_changes.specs.Told.{said_more}
use Rattle.kin_counts.specs.Changes.{raised}
use Rattle.kin_counts.specs.Tallies.{listed}
use Rattle.kin_counts.proofs.tables.raise_all_said.Given as goal

abbrev pub invariant-loop-delta : goal.invariant-loop-delta
invariant-loop-delta l = record {
  numbers : (x : User) → unwrap_or (get nat_eq l.numbers x.0) 0
      ≡ raised (said_more (take l.delta-index l.deltas) x) (unwrap_or (get nat_eq l.initial.numbers x.0) 0);
  room : spare l.initial.numbers ≤ spare l.numbers + listed (λ (d : DeltaLists). d.said) (take l.delta-index l.deltas);
}
