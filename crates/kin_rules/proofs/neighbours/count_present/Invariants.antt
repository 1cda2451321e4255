use Rattle.std.proofs.Common.{◌≡◌, ◌+◌}
use Rattle.std.specs.List.{count_by}
use Rattle.kin_ids.specs.declared.ops.Half.{Half}
use Rattle.kin_rules.proofs.neighbours.count_present.Given as goal

-- what was counted, and what is left
abbrev pub invariant-loop-half : goal.invariant-loop-half
invariant-loop-half l = l.count + count_by (λ (h : Half). h.present) l.half-iterator ≡ count_by (λ (h : Half). h.present) l.halves
