use Rattle.std.proofs.Common.{ap, subst, length, sym, ◌∙◌}
use Rattle.std.proofs.lemmas.Result.{IfOk-weaker}
use Rattle.kin_ops.specs.Pieces.{AreSpread, ArePiecesOf}
use Rattle.kin_ids.specs.Operations.{all_ops}
use Rattle.kin_ops.proofs.Spreading.{length-labelled, spread-pieces, pieces-fit}
use Rattle.kin_ops.proofs.Wanting.{wanted-all}
use Rattle.kin_ops.proofs.pieces.Goals as goal

-- the lists hold the operations of the transaction's records
spread-lists : (c : goal.After-drop-ops-inside-2) → AreSpread c.args.parts c.in_ok-lists.lists.items (all_ops c.args.stamp.from c.args.records.now)
spread-lists c = subst (AreSpread c.args.parts c.in_ok-lists.lists.items) (c.as_slice.ensures ∙ (c.in_ok-ops.ensures ∙ wanted-all (all_ops c.args.stamp.from c.args.records.now))) c.in_ok-lists.ensures

pub returns-clause-count : goal.returns-clause-count
returns-clause-count c =
    let spread = c.in_ok-lists.ensures in
    IfOk-weaker c.labelled.result _ _ (λ all made. ap length made ∙ (length-labelled c.args.stamp c.args.base 0 c.in_ok-lists.lists.items ∙ spread.count)) c.labelled.ensures

pub returns-clause-each : goal.returns-clause-each
returns-clause-each c =
    IfOk-weaker c.labelled.result _ _ (λ all made. subst (ArePiecesOf c.args.parts c.args.stamp c.args.base c.args.records.now) (sym made) (spread-pieces _ _ _ _ _ (spread-lists c))) c.labelled.ensures

pub returns-clause-fit : goal.returns-clause-fit
returns-clause-fit c =
    let spread = spread-lists c in
    IfOk-weaker c.labelled.result _ _ (λ all made. pieces-fit c.args.parts c.args.stamp c.args.base c.args.records.now all.items
    (ap length made ∙ (length-labelled c.args.stamp c.args.base 0 c.in_ok-lists.lists.items ∙ spread.count)) c.requires.stamped
    (subst (ArePiecesOf c.args.parts c.args.stamp c.args.base c.args.records.now) (sym made) (spread-pieces _ _ _ _ _ spread))) c.labelled.ensures
