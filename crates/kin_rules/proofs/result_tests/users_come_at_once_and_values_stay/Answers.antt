use Rattle.std.proofs.Common.{refl}
use Rattle.std.specs.List.Sorted.{IsStrictlySortedBy}
use Rattle.kin_rules.proofs.result_tests.users_come_at_once_and_values_stay.Goals as goal

pub wider-requires-clause-ascend : goal.wider-requires-clause-ascend
unfolding IsStrictlySortedBy
wider-requires-clause-ascend g c = rw c.in_ok-from_slice.ensures.items (tt, tt)

pub wider-requires-2-clause-ascend : goal.wider-requires-2-clause-ascend
unfolding IsStrictlySortedBy
wider-requires-2-clause-ascend g c = rw c.in_ok-from_slice-2.ensures.items ((refl, (refl, tt)), ((refl, tt), (tt, tt)))
