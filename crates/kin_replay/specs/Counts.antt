-- How much an epoch adds, by where it begins and ends at each node.
use Rattle.std.specs.Prelude.{ℕ, ◌≤◌, ◌<◌, List, Option, Some, None, length}
use Rattle.kin_ids.specs.declared.ops.Record.{Record}
use Rattle.kin_ids.specs.Order.{feed_at}
use Rattle.kin_table.specs.declared.cuts.Cut.{Cut}
use Rattle.kin_table.specs.Vectors.{end_at}

-- where a cut ends a node, and the start where there is no cut
abbrev pub position_in : Option Cut → ℕ → ℕ
position_in None i = 0
position_in (Some cut) i = (end_at cut.ends i).to

-- the ends lie within the feeds, and not before where the epoch begins
abbrev pub AreWithin : List (List Record) → (ℕ → ℕ) → (ℕ → ℕ) → Type 0
AreWithin feeds was now = (i : ℕ) → i < length feeds → (was i ≤ now i) × (now i ≤ length (feed_at feeds i))
