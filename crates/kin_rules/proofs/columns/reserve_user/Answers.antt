use Rattle.std.proofs.Common.{◌<◌, ◌∙◌, ap, get_or, vec_len, vec_capacity, length, arith}
use Rattle.kin_rules.specs.declared.columns.Column.{Column}
use Rattle.kin_rules.specs.Results.{ColumnView}
use Rattle.kin_rules.proofs.ColumnReads.{same-set, below-set}
use Rattle.kin_rules.proofs.columns.reserve_user.Goals as goal

pub returns-in_err-reserve-clause-same : goal.returns-in_err-reserve-clause-same
returns-in_err-reserve-clause-same c =
    same-set c.loop-column.columns c.loop-column.column-index _ c.column-item.result
    (ap (λ vs. let z : ColumnView = record { values = vs; others = (get_or c.loop-column.columns c.loop-column.column-index c.column-item.result).others.entries } in z) c.reserve.ensures.items)
    ∙ c.loop-column.invariant.0

pub loop-column-preserved : goal.loop-column-preserved
loop-column-preserved c =
    let room = c.in_ok-reserve.ensures.ok in
    let test = c.loop-column-test.true in
    let long = c.loop-column.auto.columns in
    let lt : c.loop-column.column-index < length c.loop-column.columns = omega (arith, test, long) in (
      same-set c.loop-column.columns c.loop-column.column-index _ c.column-item.result
          (ap (λ vs. let z : ColumnView = record { values = vs; others = (get_or c.loop-column.columns c.loop-column.column-index c.column-item.result).others.entries } in z) c.reserve.ensures.items)
          ∙ c.loop-column.invariant.0,
      below-set (λ (k : Column). vec_len k.values < vec_capacity k.values) c.loop-column.columns c.loop-column.column-index _ lt c.loop-column.invariant.1 (omega (arith, room)),
    )
