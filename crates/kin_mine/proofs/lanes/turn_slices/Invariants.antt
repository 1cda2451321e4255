use Rattle.std.proofs.Common.{◌≡◌, ◌≤◌, ◌+◌, false}
use Rattle.kin_rules.specs.Columns.{columns_of}
use Rattle.kin_mine.specs.Lanes.{AreDone, IsTurned, KeepsOn, lanes, marked_in, owed_in}
use Rattle.kin_mine.specs.Marks.{rule_of}
use Rattle.kin_mine.proofs.lanes.turn_slices.Given as goal

-- the lanes before this one are turned
abbrev pub invariant-loop-i : goal.invariant-loop-i
invariant-loop-i g l = record {
  done : AreDone (KeepsOn l.distance (g.V.View.seen l.view) (λ who. IsTurned (rule_of l.distance who) (g.V.View.seen l.view) l.u)) l.i l.landmarks l.users
      (lanes (columns_of l.fn.columns) l.fn.marks) (lanes (columns_of l.columns) l.marks);
  marked : l.turned ≡ marked_in l.users l.fn.marks l.u l.i;
  idle : marked_in l.users l.fn.marks l.u l.i ≡ false → (columns_of l.columns ≡ columns_of l.fn.columns) × (l.marks ≡ l.fn.marks) × (l.steps ≡ l.fn.steps);
  reads : l.steps + owed_in l.distance (g.V.View.seen l.view) l.landmarks l.users (lanes (columns_of l.columns) l.marks) l.i
      ≤ l.fn.steps + owed_in l.distance (g.V.View.seen l.view) l.landmarks l.users (lanes (columns_of l.fn.columns) l.fn.marks) l.i;
}
