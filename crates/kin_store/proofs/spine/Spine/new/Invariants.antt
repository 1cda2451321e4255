use Rattle.std.proofs.Common.{◌≡◌}
use Rattle.std.specs.Prelude.{replicate}
use Rattle.kin_store.specs.Blocks.{empty_block}
use Rattle.kin_store.proofs.spine.Spine.new.Given as goal

-- so many pages of empty blocks
abbrev pub invariant-loop : goal.invariant-loop
invariant-loop l = l.pages.items ≡ replicate l.counter (replicate 64 empty_block)
