use Rattle.kin_rules.proofs.ResultReads.{first-tabular, first-is}
use Rattle.kin_rules.proofs.results.EpochResult.new.Goals as goal

pub invariant_of-result : goal.invariant_of-result
invariant_of-result c =
    rw (c.new.ensures.items, c.new-2.ensures.items, c.new-3.ensures.items, c.new-4.ensures.items, c.new-5.ensures.items, c.new-6.ensures.items, c.new-7.ensures.items, c.new-8.ensures.items)
    (first-tabular c.args.landmarks _ _ c.in_ok-empty_columns.ensures c.in_ok-empty_columns-2.ensures)

pub returns-clause-empty : goal.returns-clause-empty
returns-clause-empty c = λ us long.
    rw (c.new.ensures.items, c.new-2.ensures.items, c.new-3.ensures.items, c.new-4.ensures.items, c.new-5.ensures.items, c.new-6.ensures.items, c.new-7.ensures.items, c.new-8.ensures.items, c.in_ok-empty_columns.ensures, c.in_ok-empty_columns-2.ensures)
    (first-is us c.args.landmarks long)
