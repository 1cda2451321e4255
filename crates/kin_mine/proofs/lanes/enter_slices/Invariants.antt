use Rattle.std.proofs.Common.{◌≡◌}
use Rattle.kin_push.specs.Begins.{IsEntered}
use Rattle.kin_push.specs.States.{IsPushState}
use Rattle.kin_rules.specs.Columns.{columns_of}
use Rattle.kin_mine.specs.Lanes.{AreDone, lanes}
use Rattle.kin_mine.specs.Marks.{rule_of}
use Rattle.kin_mine.proofs.lanes.enter_slices.Given as goal

-- the lanes before this one have begun the epoch
abbrev pub invariant-loop-i : goal.invariant-loop-i
invariant-loop-i l = AreDone (λ who old new. IsPushState new × IsEntered (rule_of l.distance who) l.starts old new) l.i l.landmarks l.users
    (lanes (columns_of l.fn.columns) l.fn.marks) (lanes (columns_of l.columns) l.marks)
