use Rattle.std.proofs.Common.{◌≡◌, ◌≤◌, ◌++◌, List, length}
use Rattle.std.specs.Prelude.{All, IsPermutation}
use Rattle.kin_ids.specs.declared.ops.Piece.{Piece}
use Rattle.kin_ids.specs.Operations.{IsWellFormed}
use Rattle.kin_held.specs.Chains.{IsRun}
use Rattle.kin_held.proofs.chains.join.Given as goal

-- some early pieces have joined so far, and the others are left
abbrev pub invariant-loop-next : goal.invariant-loop-next
invariant-loop-next l = record {
  room : length l.early ≤ l.held.room;
  formed : All IsWellFormed l.early;
  so_far : (joined : List Piece) × (l.held.items ≡ l.fn.held.items ++ joined) × IsRun l.fn.from joined l.top × IsPermutation l.fn.early (joined ++ l.early);
}

abbrev pub decreases-loop-next : goal.decreases-loop-next
decreases-loop-next l = length l.early
