use Rattle.std.proofs.Common.{◌≡◌, ◌≤◌, ◌*◌, List, length}
use Rattle.std.specs.List.{sum_by}
use Rattle.kin_ids.specs.declared.ops.Record.{Record}
use Rattle.kin_steps.proofs.opens.feeds_of.Given as goal

abbrev pub invariant-loop-text : goal.invariant-loop-text
invariant-loop-text l = (length l.feeds.items ≡ l.text-index) × (sum_by (λ (feed : List Record). length feed) l.feeds.items ≤ 131072 * l.text-index)
