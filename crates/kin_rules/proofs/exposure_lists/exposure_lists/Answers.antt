use Rattle.std.proofs.Common.{◌<◌, ◌∙◌, ap, sym, length, get_or, [], arith}
use Rattle.std.proofs.lemmas.List.{length-map}
use Rattle.kin_rules.specs.ExposureLists.{counted, ks_of, listed}
use Rattle.kin_rules.proofs.ExposureSteps.{lists-more, listed-counted, number-at, row-at}
use Rattle.kin_rules.proofs.exposure_lists.exposure_lists.Goals as goal

pub loop-i-preserved : goal.loop-i-preserved
loop-i-preserved c = λ f is.
    let test = c.loop-i-test.true in
    let shown = ap length c.deref-row-items.ensures.value in
    let rows = sym (length-map c.in_ok-rows.rows.items (λ r. r.items)) ∙ ap length c.in_ok-rows.ensures ∙ length-map c.args.tags.now (ks_of c.args.entries.now) in
    let lt : c.loop-i.i < length c.in_ok-rows.rows.items = omega (arith, test, shown) in
    let within : c.loop-i.i < length c.args.tags.now = omega (arith, lt, rows) in
    let ks = c.deref.ensures.value ∙ ap (λ r. r.items) (c.row-item.is ∙ ap (λ l. get_or l c.loop-i.i c.row-item.result) c.deref-row-items.ensures.value)
    ∙ row-at (λ r. r.items) c.in_ok-rows.rows.items (ks_of c.args.entries.now) c.args.tags.now c.loop-i.i c.row-item.result [] c.in_ok-rows.ensures lt in
    let n = number-at f c.args.tags.now c.args.tag_users.now c.loop-i.i [] is within in
    c.in_ok-push.ensures.items
    ∙ lists-more c.args.entries.now f c.args.tags.now c.loop-i.i [] c.loop-i.lists.items c.of.result within (c.loop-i.invariant f is)
    (c.of.ensures ∙ c.in_ok-list_of.ensures ∙ ap listed c.deref-in-loop-i.ensures.value
    ∙ listed-counted c.in_ok-counts.counts.items c.deref.result.now (get_or c.args.tag_users.now c.loop-i.i 0) c.in_ok-counts.ensures
    ∙ ap (λ l. counted l (get_or c.args.tag_users.now c.loop-i.i 0)) ks ∙ ap (λ m. counted (ks_of c.args.entries.now (get_or c.args.tags.now c.loop-i.i [])) m) n)
