use Rattle.std.proofs.Common.{◌≡◌, ◌+◌, ◌≤◌, ◌∷◌, List, length, ap, ◌∙◌, arith, rules}
use Rattle.std.specs.List.{count_by}
use Rattle.std.proofs.lemmas.List.Sums.{count_by-le-length}
use Rattle.kin_ids.specs.declared.ops.Half.{Half}
use Rattle.kin_rules.proofs.LayerRows.{present-one}
use Rattle.kin_rules.proofs.neighbours.count_present.Goals as goal

pub overflow_add-count : goal.overflow_add-count
overflow_add-count c =
    let here : c.loop-half.half-iterator ≡ c.in-Some.half.now ∷ c.next.new.self = search rules in
    let one : count_by (λ (h : Half). h.present) c.loop-half.half-iterator ≡ 1 + count_by (λ (h : Half). h.present) c.next.new.self = ap (λ (hs : List Half). count_by (λ h. h.present) hs) here ∙ present-one c.in-Some.half.now c.next.new.self c.if-half.true in
    let few : count_by (λ (h : Half). h.present) c.args.halves.now ≤ length c.args.halves.now = count_by-le-length (λ (h : Half). h.present) c.args.halves.now in
    omega (arith, one, few, c.loop-half.invariant, c.len-all.ensures, c.len-all.type_inv)
