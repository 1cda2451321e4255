use Rattle.std.proofs.Common.{◌≡◌, map, take}
use Rattle.kin_rules.specs.Columns.{columns_of, over_users}
use Rattle.kin_rules.proofs.widenings.columns_by.Given as goal

abbrev pub invariant-loop-column : goal.invariant-loop-column
invariant-loop-column l = columns_of l.wide.items ≡ map (over_users l.old l.users) (columns_of (take l.column-index l.columns))
