use Rattle.kin_probe.proofs.Beginning.{opened}
use Rattle.kin_probe.proofs.tests.world_of.Goals as goal

pub play-requires : goal.play-requires
play-requires g c = opened _ _ c.in_ok-world.ensures.stands
