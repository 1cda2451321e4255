use Rattle.std.proofs.Common.{◌≡◌, Some, true, refl, sym, ap, ◌∙◌}
use Rattle.kin_ids.specs.declared.ops.Half.{Half}
use Rattle.kin_store.specs.Lists.{half_place}
use Rattle.kin_store.proofs.Turns.{turned-same}
use Rattle.kin_store.proofs.Placing.{with_half-there, some_true}
use Rattle.kin_store.proofs.lists.is_added.Goals as goal

pub returns : goal.returns
returns c = λ so added.
    let w = c.args.other in
    let xs = c.args.halves.now in
    let at : half_place xs w ≡ Some c.in-Some.at = sym c.requires ∙ c.in-Some.is in
    sym (with_half-there w added xs true (some_true (half_place xs w) at) refl)
    ∙ turned-same w true xs c.in-Some.at c.at.result at (ap (λ (h : Half). h.present) (sym (c.at.ensures c.at.result)) ∙ so)
