use Rattle.std.proofs.Common.{◌≡◌, ◌+◌, ◌<◌, true, subst, arith}
use Rattle.kin_world.specs.Worlds.{WorldView}
use Rattle.kin_world.proofs.Epochs.{open-room}
use Rattle.kin_world.proofs.cores.Core.begin.Goals as goal

pub next_epoch-requires : goal.next_epoch-requires
next_epoch-requires c =
    let room = open-room c.args.self.now c.requires.history (subst (λ (v : WorldView). v.is_open ≡ true) c.self.view_is c.if-self.true) in
    omega arith
