use Rattle.std.proofs.Common.{◌≡◌, ◌≤◌, ◌++◌, ℕ, get_or, map, take, drop}
use Rattle.kin_rules.specs.declared.columns.Column.{Column}
use Rattle.kin_rules.specs.Columns.{columns_of, widened}
use Rattle.kin_rules.proofs.columns.widen_all.Given as goal

abbrev pub invariant-loop-column : goal.invariant-loop-column
invariant-loop-column l = (columns_of l.columns ≡ map (widened l.at l.u) (take l.column-index (columns_of l.initial.columns)) ++ drop l.column-index (columns_of l.initial.columns))
    × ((k : ℕ) (d : Column) → l.column-index ≤ k → get_or l.columns k d ≡ get_or l.initial.columns k d)
