use Rattle.std.proofs.Common.{◌≡◌, take, map, get_or}
use Rattle.kin_pull.specs.States.{row_in}
use Rattle.kin_pull.proofs.begins.values_at.Given as goal

-- so far
abbrev pub invariant-loop-place : goal.invariant-loop-place
invariant-loop-place g l = l.values.items ≡ map (λ p. get_or (row_in l.kept l.fn.layer) p l.first) (take l.place-index l.places)
