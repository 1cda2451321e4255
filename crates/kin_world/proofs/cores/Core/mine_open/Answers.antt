use Rattle.std.proofs.Common.{◌<◌, ◌≤◌, ◌+◌, ℕ, ap, sym, subst, arith}
use Rattle.kin_hub.specs.Hubs.{parts_in, committed_in}
use Rattle.kin_world.specs.Worlds.{WorldView}
use Rattle.kin_world.proofs.Epochs.{open-room, open-done}
use Rattle.kin_world.proofs.cores.Core.mine_open.Goals as goal

pub next_epoch-epoch-requires : goal.next_epoch-epoch-requires
next_epoch-epoch-requires c =
    let room = open-room c.args.self.now c.requires.history c.requires.open in
    let same = ap (λ (w : WorldView). w.mined) c.self.view_is in
    omega arith

pub release_below-requires : goal.release_below-requires
release_below-requires c p lt =
    let done = subst (λ (w : WorldView). (p : ℕ) → p < parts_in w.hub → w.mined + 1 ≤ committed_in w.hub p) (sym c.self.view_is) (open-done c.args.self.now c.requires.history c.requires.open) p lt in
    let at = c.next_epoch-epoch.ensures in
    omega arith
