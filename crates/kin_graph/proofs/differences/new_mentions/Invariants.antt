use Rattle.std.proofs.Common.{◌≡◌, ◌++◌}
use Rattle.kin_store.specs.State.{view_of}
use Rattle.kin_graph.specs.Gathered.{mentions_on}
use Rattle.kin_graph.proofs.differences.new_mentions.Given as goal

-- what is told so far, and what is left
abbrev pub invariant-loop-pair : goal.invariant-loop-pair
invariant-loop-pair l =
    l.pairs ++ mentions_on l.side (view_of l.was) (view_of l.is) l.pair-iterator ≡ mentions_on l.side (view_of l.was)
    (view_of l.is) l.touched.keys
