use Rattle.std.proofs.Common.{refl}
use Rattle.std.specs.List.Sorted.{IsStrictlySortedBy}
use Rattle.kin_rules.proofs.walk_tests.walks_of_a_detour.Goals as goal

pub of-requires : goal.of-requires
unfolding IsStrictlySortedBy
of-requires g c = ((refl, (refl, tt)), ((refl, tt), (tt, tt)))
