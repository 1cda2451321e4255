use Rattle.std.proofs.Common.{sym, subst}
use Rattle.kin_blocks.specs.Versions.{IsVersions}
use Rattle.kin_bench.specs.Follows.{HasRooms}
use Rattle.kin_bench.proofs.Rooms.{rooms-first}
use Rattle.kin_bench.proofs.epochs.first.Goals as goal

pub returns : goal.returns
returns c =
    subst (HasRooms c.args.parts) (sym c.in_ok-versions.ensures.value)
    (rooms-first c.args.parts (subst IsVersions c.in_ok-versions.ensures.value c.in_ok-versions.ensures.versions))
