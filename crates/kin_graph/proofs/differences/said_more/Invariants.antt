use Rattle.std.proofs.Common.{◌≡◌, ◌++◌}
use Rattle.kin_store.specs.State.{view_of}
use Rattle.kin_graph.specs.Gathered.{said_more}
use Rattle.kin_graph.proofs.differences.said_more.Given as goal

-- what is told so far, and what is left
abbrev pub invariant-loop-user : goal.invariant-loop-user
invariant-loop-user l = l.rows ++ said_more (view_of l.was) (view_of l.is) l.user-iterator ≡ said_more (view_of l.was)
    (view_of l.is) l.touched.keys
