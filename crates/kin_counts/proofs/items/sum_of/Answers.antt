use Rattle.std.proofs.Common.{arith}
use Rattle.std.proofs.lemmas.List.Sums.{sum_by_more_le}
use Rattle.kin_counts.proofs.items.sum_of.Goals as goal

pub returns-in_err-total : goal.returns-in_err-total
returns-in_err-total c =
    rw c.from_residual.ensures
    (omega (
      arith,
      sum_by_more_le
          (λ x. x) c.args.numbers.now c.loop-n.n-index 0 c.loop-n-test.true,
      c.in_err-total.ensures,
      c.loop-n.invariant,
    ))
