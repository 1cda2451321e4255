use Rattle.std.proofs.Common.{◌≡◌, map, take}
use Rattle.kin_pull.specs.States.{is_from}
use Rattle.kin_pull.proofs.passes.active_marks.Given as goal

-- the marks so far
abbrev pub invariant-loop-low : goal.invariant-loop-low
invariant-loop-low g l = l.marks.items ≡ map (λ o. is_from o l.fn.layer) (take l.low-index l.fn.kept.low)
