use Rattle.std.proofs.Common.{◌≡◌, replicate}
use Rattle.kin_rules.specs.Results.{no_column}
use Rattle.kin_rules.specs.Columns.{columns_of}
use Rattle.kin_rules.proofs.columns.empty_columns.Given as goal

abbrev pub invariant-loop-column : goal.invariant-loop-column
invariant-loop-column l = columns_of l.columns.items ≡ replicate l._column no_column
