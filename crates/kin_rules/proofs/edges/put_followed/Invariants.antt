use Rattle.std.proofs.Common.{◌≡◌, ◌++◌, map}
use Rattle.kin_ids.specs.declared.ops.Half.{Half}
use Rattle.kin_rules.specs.Edges.{places_of}
use Rattle.kin_rules.proofs.edges.put_followed.Given as goal

-- whose places are left to put
abbrev pub invariant-loop-half : goal.invariant-loop-half
invariant-loop-half l = l.row.items ++ places_of l.index (map (λ (h : Half). h.other) l.half-iterator) ≡ l.fn.row.items ++ places_of l.index (map (λ (h : Half). h.other) l.halves)
