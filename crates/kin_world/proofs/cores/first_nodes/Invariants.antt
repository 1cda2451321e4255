use Rattle.std.proofs.Common.{◌≡◌, ℕ, ◌<◌, length, get_or}
use Rattle.std.specs.Prelude.{All}
use Rattle.kin_ids.specs.Order.{feed_at}
use Rattle.kin_ids.specs.Sizes.{IsSmall}
use Rattle.kin_world.specs.Worlds.{no_node}
use Rattle.kin_world.specs.Opens.{first_node}
use Rattle.kin_world.proofs.cores.first_nodes.Given as goal

abbrev pub invariant-loop-i : goal.invariant-loop-i
invariant-loop-i l = record {
  count : length l.ingests.items ≡ l.i;
  small : (k : ℕ) → k < l.i → All IsSmall (feed_at l.feeds k);
  each : (k : ℕ) → k < l.i → get_or l.ingests.items k no_node ≡ first_node l.feeds k;
}
