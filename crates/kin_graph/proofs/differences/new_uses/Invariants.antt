use Rattle.std.proofs.Common.{◌≡◌, ◌++◌}
use Rattle.kin_store.specs.State.{view_of}
use Rattle.kin_graph.specs.Gathered.{new_uses}
use Rattle.kin_graph.proofs.differences.new_uses.Given as goal

-- what is told so far, and what is left
abbrev pub invariant-loop-used : goal.invariant-loop-used
invariant-loop-used l = l.rows ++ new_uses (view_of l.was) (view_of l.is) l.used-iterator ≡ new_uses (view_of l.was)
    (view_of l.is) l.touched.keys
