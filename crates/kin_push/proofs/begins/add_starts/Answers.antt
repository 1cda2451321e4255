use Rattle.kin_push.proofs.Starting.{start-more}
use Rattle.kin_push.proofs.begins.add_starts.Goals as goal

pub loop-pair-preserved : goal.loop-pair-preserved
loop-pair-preserved c u =
    start-more c.args.starts.now.items c.loop-pair.starts.items c.push.new.self.items u c.args.pairs.now c.loop-pair.pair-index _
    c.loop-pair-test.true (c.loop-pair.invariant u) c.in_ok-push.ensures.items
