-- The snapshot of the next epoch has few vertices.
use Rattle.std.proofs.Common.{◌≡◌, ℕ, ◌+◌, ◌*◌, ◌^◌, ◌<◌, ◌≤◌, None, List, arith, length}
use Rattle.kin_ids.specs.Graph.{vertices}
use Rattle.kin_ids.specs.Order.{snapshot}
use Rattle.kin_graph.specs.Views.{IsSmall}
use Rattle.kin_blocks.specs.Snaps.{joined}
use Rattle.kin_hub.specs.Hubs.{snap_in}
use Rattle.kin_hub.proofs.Committing.{few-law}
use Rattle.kin_rules.proofs.SmallViews.{small-view}
use Rattle.kin_history.specs.Vectors.{vector}
use Rattle.kin_history.specs.Mining.{mined}
use Rattle.kin_world.specs.Worlds.{WorldView}
use Rattle.kin_world.specs.Mining.{held_back_in}
use Rattle.kin_world.specs.Stands.{HasHistory, story_of}
use Rattle.kin_world.proofs.Cutting.{cuts_is}
use Rattle.kin_world.proofs.Epochs.{clear-ready, ready-whole}

pub clear-small : (w : WorldView) → HasHistory w → held_back_in w ≡ None → IsSmall (joined (snap_in w.hub (w.mined + 1)))
clear-small w (set, h, s) clear =
    let r = clear-ready set w h s clear in
    let cut = r.cut in
    let count = cuts_is set w h s in
    let few : length (vertices (snapshot set.feeds (vector set h) (mined set h + 1))) ≤ 17 * 2097152 = few-law (story_of set h) w.hub (mined set h + 1) s.epochs.hub s.over.limits (omega arith) in
    small-view (snapshot set.feeds (vector set h) (mined set h + 1)) (joined (snap_in w.hub (w.mined + 1))) (ready-whole set w h s r) (omega (arith, few))
