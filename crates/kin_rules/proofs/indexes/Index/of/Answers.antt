use Rattle.kin_rules.proofs.Places.{with-next}
use Rattle.kin_rules.proofs.indexes.Index.of.Goals as goal

pub loop-user-preserved : goal.loop-user-preserved
loop-user-preserved c = with-next c.args.users.now c.loop-user.index c.add.new.self c.loop-user.user-index _ c.requires c.loop-user-test.true c.loop-user.invariant c.in_ok-add.ensures.users
