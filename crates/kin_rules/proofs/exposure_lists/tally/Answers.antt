use Rattle.std.proofs.Common.{◌≡◌, ◌<◌, ◌+◌, ◌∙◌, [], length, get_or, ap, arith, subst, sym}
use Rattle.std.proofs.lemmas.List.{length-map}
use Rattle.kin_rules.specs.ExposureLists.{IsTally, ks_of}
use Rattle.kin_rules.proofs.ExposureSteps.{row-at}
use Rattle.kin_rules.proofs.Tallies.{AreSome, some-all, some-more, tallies-are-lists}
use Rattle.kin_rules.proofs.exposure_lists.tally.Goals as goal

pub loop-row-preserved : goal.loop-row-preserved
loop-row-preserved c =
    let test = c.loop-row-test.true in
    let shown = ap length c.deref-row-items.ensures.value in
    let lt : c.loop-row.row-index < length c.in_ok-rows.rows.items = omega (arith, test, shown) in
    let ks = c.as_slice.ensures.value ∙ ap (λ r. r.items) (c.row-item.is ∙ ap (λ l. get_or l c.loop-row.row-index c.row-item.result) c.deref-row-items.ensures.value)
    ∙ row-at (λ r. r.items) c.in_ok-rows.rows.items (ks_of c.args.entries.now) c.args.tags.now c.loop-row.row-index c.row-item.result [] c.in_ok-rows.ensures lt in
    subst (λ l. AreSome c.args.entries.now c.args.tags.now l (c.loop-row.row-index + 1)) (sym c.in_ok-push.ensures.items)
    (some-more c.args.entries.now c.args.tags.now c.loop-row.lists.items c.in_ok-tally_of.field-0 c.loop-row.row-index (subst (λ k. IsTally k c.in_ok-tally_of.field-0) ks c.in_ok-tally_of.ensures) c.loop-row.invariant)

pub returns-clause-tallies : goal.returns-clause-tallies
returns-clause-tallies c =
    let rows = sym (length-map c.in_ok-rows.rows.items (λ r. r.items)) ∙ ap length c.in_ok-rows.ensures ∙ length-map c.args.tags.now (ks_of c.args.entries.now) in
    let shown = ap length c.deref-row-items.ensures.value in
    let over = c.loop-row-test.false in
    let end = c.loop-row.auto.row-index-end in
    some-all c.args.entries.now c.args.tags.now c.loop-row.lists.items c.loop-row.row-index (omega (arith, rows, shown, over, end)) c.loop-row.invariant

pub returns-clause-lists : goal.returns-clause-lists
returns-clause-lists c = tallies-are-lists c.args.entries.now c.args.tags.now c.loop-row.lists.items (returns-clause-tallies c)
