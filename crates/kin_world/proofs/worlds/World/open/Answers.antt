use Rattle.std.proofs.Common.{[]}
use Rattle.kin_history.specs.Setting.{Setting}
use Rattle.kin_world.proofs.worlds.World.open.Goals as goal

pub invariant_of-result : goal.invariant_of-result
invariant_of-result c =
    let set : Setting = record { feeds = c.args.feeds.items; parts = c.args.parts; landmarks = c.args.landmarks.now } in
    (set, [], c.in_ok-open.ensures.stands)
