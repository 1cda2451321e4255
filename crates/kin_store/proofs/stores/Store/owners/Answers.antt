use Rattle.std.proofs.Common.{◌++◌, ◌∙◌, ap}
use Rattle.std.specs.Map.{keys_of}
use Rattle.kin_store.specs.Blocks.{BlockState}
use Rattle.kin_store.specs.State.{PartState, block_at}
use Rattle.kin_store.proofs.Gathering.{owners-more}
use Rattle.kin_store.proofs.stores.Store.owners.Goals as goal

pub loop-slot-preserved : goal.loop-slot-preserved
loop-slot-preserved c =
    let here = c.block.ensures ∙ ap (λ (s : PartState). block_at s c.loop-slot.slot) c.self.view_is in
    owners-more c.args.self.now c.loop-slot.slot c.loop-slot.users.items c.put_owners.new.users.items c.loop-slot.invariant
    (c.in_ok-put_owners.ensures ∙ ap (λ (b : BlockState). c.loop-slot.users.items ++ keys_of b.rows) here)
