use Rattle.kin_store.specs.State.{view_of}
use Rattle.kin_graph.specs.Deltas.{pair_in}
use Rattle.kin_graph.specs.Gathered.{halves_on}
use Rattle.kin_graph.proofs.Gathering.{IsLeft}
use Rattle.kin_graph.proofs.differences.half_changes.Given as goal

-- what is told so far, and what is left
abbrev pub invariant-loop-pair : goal.invariant-loop-pair
invariant-loop-pair l =
    IsLeft (pair_in (halves_on l.side (view_of l.was))) (pair_in (halves_on l.side (view_of l.is))) l.touched.keys l.pair-iterator l.changes
