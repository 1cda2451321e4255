use Rattle.std.proofs.Common.{◌<◌, length, arith}
use Rattle.kin_rules.specs.Columns.{widened}
use Rattle.kin_rules.proofs.ColumnReads.{step-over, others-set}
use Rattle.kin_rules.proofs.columns.widen_all.Goals as goal

pub loop-column-preserved : goal.loop-column-preserved
loop-column-preserved c =
    let test = c.loop-column-test.true in
    let long = c.loop-column.auto.columns in
    let lt : c.loop-column.column-index < length c.loop-column.columns = omega (arith, test, long) in (
      step-over (widened c.args.at c.args.u) c.args.columns.now c.loop-column.columns c.loop-column.column-index c.widen.new.self c.column-item.result lt c.loop-column.auto.columns
          c.loop-column.invariant.0 c.widen.ensures,
      others-set c.args.columns.now c.loop-column.columns c.loop-column.column-index c.widen.new.self c.loop-column.invariant.1,
    )
