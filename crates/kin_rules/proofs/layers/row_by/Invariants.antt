use Rattle.std.proofs.Common.{◌≡◌, ◌+◌, ℕ, List, take, map, length}
use Rattle.kin_ids.specs.declared.ids.User.{User}
use Rattle.kin_rules.specs.Layers.{LayerNet, layer}
use Rattle.kin_rules.specs.LayerTables.{IsTable}
use Rattle.kin_rules.proofs.layers.row_by.Given as goal

-- the values above, so far
abbrev pub invariant-loop-k : goal.invariant-loop-k
invariant-loop-k g l = record {
  long : length l.next.items ≡ l.k;
  above : (net : LayerNet) (users : List User) (j : ℕ) → IsTable net users l.facts l.ends → l.row ≡ map (layer (g.R.PullRule.seen l.rule) net j) users
      → l.next.items ≡ map (layer (g.R.PullRule.seen l.rule) net (j + 1)) (take l.k users);
}
