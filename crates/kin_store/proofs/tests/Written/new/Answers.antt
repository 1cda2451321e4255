use Rattle.kin_store.proofs.Counts.{written-none}
use Rattle.kin_store.proofs.tests.Written.new.Goals as goal

pub invariant_of-result : goal.invariant_of-result
invariant_of-result c = written-none c.in_ok-snap.snap c.new-2.result c.in_ok-snap.ensures c.new-2.ensures
