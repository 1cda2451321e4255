use Rattle.std.proofs.Common.{◌≡◌, arith}
use Rattle.std.proofs.lemmas.List.{take_all}
use Rattle.kin_blocks.proofs.snaps.Snap.share.Goals as goal

pub invariant_of-result : goal.invariant_of-result
invariant_of-result c =
    let all : c.loop-store.stores.items ≡ c.self.inside.stores.items = grind (arith, take_all, c.loop-store.invariant) in
    rw all c.self.invariant
