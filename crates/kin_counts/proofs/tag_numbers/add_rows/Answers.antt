use Rattle.std.proofs.Common.{take}
use Rattle.kin_counts.specs.Changes.{raised}
use Rattle.kin_counts.proofs.Placing.{rows_of, rows-next}
use Rattle.kin_counts.proofs.tag_numbers.add_rows.Goals as goal

pub loop-row-preserved : goal.loop-row-preserved
loop-row-preserved c = λ f e. rows-next c.args.tags.now f c.args.rows.now c.loop-row.row-index c.row-item.result c.loop-row-test.true
    c.row-item.is c.add_one.new.numbers
    (c.add_one.ensures (λ s. raised (rows_of s (take c.loop-row.row-index c.args.rows.now)) (f s)) (c.loop-row.invariant f e))
