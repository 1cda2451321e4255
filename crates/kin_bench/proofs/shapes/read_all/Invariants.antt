use Rattle.std.proofs.Common.{◌≡◌, ◌≤◌, ◌*◌, List, length}
use Rattle.std.specs.List.{sum_by}
use Rattle.kin_ids.specs.declared.ops.Record.{Record}
use Rattle.kin_bench.proofs.shapes.read_all.Given as goal

abbrev pub invariant-loop-node : goal.invariant-loop-node
invariant-loop-node l = (length l.feeds.items ≡ l.node) × (sum_by (λ (feed : List Record). length feed) l.feeds.items ≤ 699050 * l.node)
