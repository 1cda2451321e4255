use Rattle.kin_rules.proofs.ExposureSteps.{count-step}
use Rattle.kin_rules.proofs.exposure_lists.counts_below.Goals as goal

pub loop-k-preserved : goal.loop-k-preserved
loop-k-preserved c = count-step c.args.n c.loop-k.counts.items c.count_one.new.counts.items c.args.ks.now c.loop-k.k-index c.loop-k-test.true c.count_one.ensures c.loop-k.invariant
