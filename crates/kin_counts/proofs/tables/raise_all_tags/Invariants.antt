use Rattle.std.proofs.Common.{◌≡◌, ◌≤◌, ◌+◌, ℕ, List, nat_eq, unwrap_or, take}
use Rattle.std.specs.HashMap.{get, spare}
use Rattle.std.specs.Cmp.Lexicographic.{pointwise}
use Rattle.kin_graph.specs.Deltas.{DeltaLists}
use Rattle.kin_changes.specs.Told.{tag_more}
use Rattle.kin_counts.specs.Changes.{raised}
use Rattle.kin_counts.specs.Tallies.{listed}
use Rattle.kin_counts.proofs.tables.raise_all_tags.Given as goal

abbrev pub invariant-loop-delta : goal.invariant-loop-delta
invariant-loop-delta l = record {
  numbers : (x : List ℕ) → unwrap_or (get (pointwise nat_eq) l.numbers x) 0
      ≡ raised (tag_more (take l.delta-index l.deltas) x) (unwrap_or (get (pointwise nat_eq) l.initial.numbers x) 0);
  room : spare l.initial.numbers ≤ spare l.numbers + listed (λ (d : DeltaLists). d.tag_users) (take l.delta-index l.deltas);
}
