use Rattle.std.proofs.Common.{◌≡◌}
use Rattle.std.specs.Prelude.{replicate}
use Rattle.kin_store.specs.Blocks.{empty_block}
use Rattle.kin_store.proofs.spine.Rack.new.Given as goal

-- so many empty blocks
abbrev pub invariant-loop : goal.invariant-loop
invariant-loop l = l.shelves.items ≡ replicate l.counter empty_block
