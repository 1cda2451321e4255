use Rattle.std.proofs.Common.{subst, sym}
use Rattle.kin_bench.specs.Room.{HasRoom}
use Rattle.kin_bench.proofs.Rooms.{room-first}
use Rattle.kin_bench.proofs.stores.celebrity.Goals as goal

pub loop-left-init : goal.loop-left-init
loop-left-init c = subst HasRoom (sym c.in_ok-store.ensures) room-first
