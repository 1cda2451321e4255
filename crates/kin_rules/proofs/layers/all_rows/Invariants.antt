use Rattle.std.proofs.Common.{◌≡◌, ◌≤◌, List, map, length}
use Rattle.kin_ids.specs.declared.ids.User.{User}
use Rattle.kin_rules.specs.Layers.{LayerNet, layer}
use Rattle.kin_rules.specs.LayerTables.{IsTable, AreRows}
use Rattle.kin_rules.proofs.layers.all_rows.Given as goal

-- the rows below the level, and the row of the level
abbrev pub invariant-loop-level : goal.invariant-loop-level
invariant-loop-level g l = record {
  most : l.level ≤ g.R.PullRule.LAYERS;
  long : length l.facts ≡ length l.row.items;
  rows : (net : LayerNet) (users : List User) → IsTable net users l.facts l.ends → AreRows (g.R.PullRule.seen l.rule) net users l.level (map (λ r. r.items) l.rows.items);
  row : (net : LayerNet) (users : List User) → IsTable net users l.facts l.ends → l.row.items ≡ map (layer (g.R.PullRule.seen l.rule) net l.level) users;
}
