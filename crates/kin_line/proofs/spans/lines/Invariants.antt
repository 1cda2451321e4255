use Rattle.kin_line.proofs.Cuts.{IsCut}
use Rattle.kin_line.proofs.spans.lines.Given as goal

abbrev pub invariant-loop-end : goal.invariant-loop-end
invariant-loop-end l = IsCut l.bytes l.spans.items l.from l.end
