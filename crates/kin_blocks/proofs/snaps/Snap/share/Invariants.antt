use Rattle.std.proofs.Common.{◌≡◌, take}
use Rattle.kin_blocks.proofs.snaps.Snap.share.Given as goal

abbrev pub invariant-loop-store : goal.invariant-loop-store
invariant-loop-store l = l.stores.items ≡ take l.store-index l.self-inside.stores.items
