use Rattle.std.proofs.Common.{ℕ, List, length, ◌∙◌, ap, take}
use Rattle.kin_changes.specs.Told.{tag_more}
use Rattle.kin_rules.specs.Results.{tag_users_in}
use Rattle.kin_counts.specs.Changes.{raised}
use Rattle.kin_counts.proofs.Placing.{deltas-next, written-back}
use Rattle.kin_counts.proofs.tag_numbers.tag_numbers.Goals as goal

pub loop-delta-preserved : goal.loop-delta-preserved
loop-delta-preserved c =
    let f = tag_users_in c.args.counted.now in
    let i = c.loop-delta.delta-index in
    written-back c.loop-delta.numbers.len c.add_rows.new.numbers c.loop-delta.numbers.items
    (c.add_rows.auto.numbers ∙ ap (λ (ns : List ℕ). length ns) c.as_mut_slice.ensures.value) c.loop-delta.numbers.ok.0
    ∙ deltas-next c.args.tags.now f c.args.deltas.now i c.delta-item.result c.loop-delta-test.true c.delta-item.is c.tag_users.result.now
    c.tag_users.ensures c.add_rows.new.numbers
    (c.add_rows.ensures (λ t. raised (tag_more (take i c.args.deltas.now) t) (f t)) (c.as_mut_slice.ensures.value ∙ c.loop-delta.invariant))
