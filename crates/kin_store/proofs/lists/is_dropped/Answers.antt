use Rattle.std.proofs.Common.{◌≡◌, Some, Bool, true, false, not, refl, sym, ap, ◌∙◌}
use Rattle.kin_ids.specs.declared.ops.Half.{Half}
use Rattle.kin_store.specs.Lists.{half_place}
use Rattle.kin_store.proofs.Turns.{turned-none, turned-same, without_half-turned}
use Rattle.kin_store.proofs.lists.is_dropped.Goals as goal

pub returns-in_default : goal.returns-in_default
returns-in_default c = λ so.
    without_half-turned c.args.other c.args.halves.now ∙ turned-none c.args.other false c.args.halves.now (sym c.requires ∙ c.in_default.is)

not_true : (b : Bool) → not b ≡ true → b ≡ false
not_true true e = cc
not_true false e = refl

pub returns : goal.returns
returns c = λ so.
    let w = c.args.other in
    let xs = c.args.halves.now in
    let at : half_place xs w ≡ Some c.in-Some.at = sym c.requires ∙ c.in-Some.is in
    without_half-turned w xs
    ∙ turned-same w false xs c.in-Some.at c.at.result at (ap (λ (h : Half). h.present) (sym (c.at.ensures c.at.result))
    ∙ not_true c.at.result.present so)
