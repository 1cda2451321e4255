use Rattle.std.proofs.Common.{◌≡◌, ◌≤◌, ◌+◌, false}
use Rattle.kin_rules.specs.Columns.{columns_of}
use Rattle.kin_mine.specs.Lanes.{AreDone, IsSettled, KeepsOn, lanes, owed_in}
use Rattle.kin_mine.specs.Marks.{are_quiet, rule_of}
use Rattle.kin_mine.proofs.lanes.settle_slices.Given as goal

-- the lanes before this one are settled
abbrev pub invariant-loop-i : goal.invariant-loop-i
invariant-loop-i g l = record {
  done : AreDone (KeepsOn l.distance (g.V.View.seen l.view) (λ who. IsSettled (rule_of l.distance who) (g.V.View.seen l.view))) l.i l.landmarks l.users
      (lanes (columns_of l.fn.columns) l.fn.marks) (lanes (columns_of l.columns) l.marks);
  idle : are_quiet l.fn.marks → (columns_of l.columns ≡ columns_of l.fn.columns) × (l.marks ≡ l.fn.marks) × (l.steps ≡ l.fn.steps);
  reads : l.steps + owed_in l.distance (g.V.View.seen l.view) l.landmarks l.users (lanes (columns_of l.columns) l.marks) l.i
      ≤ l.fn.steps + owed_in l.distance (g.V.View.seen l.view) l.landmarks l.users (lanes (columns_of l.fn.columns) l.fn.marks) l.i;
}
