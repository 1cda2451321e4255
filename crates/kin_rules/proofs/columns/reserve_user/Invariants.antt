use Rattle.std.proofs.Common.{◌≡◌, ◌<◌, ℕ, get_or, vec_len, vec_capacity}
use Rattle.kin_rules.specs.declared.columns.Column.{Column}
use Rattle.kin_rules.specs.Columns.{columns_of}
use Rattle.kin_rules.proofs.columns.reserve_user.Given as goal

abbrev pub invariant-loop-column : goal.invariant-loop-column
invariant-loop-column l = (columns_of l.columns ≡ columns_of l.initial.columns)
    × ((k : ℕ) (d : Column) → k < l.column-index → vec_len (get_or l.columns k d).values < vec_capacity (get_or l.columns k d).values)
