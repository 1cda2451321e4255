use Rattle.kin_store.specs.declared.pairs.Pair.{Pair}
use Rattle.kin_counts.specs.Changes.{lowered}
use Rattle.kin_counts.proofs.Moving.{lowered-none, lowered-twice, moves-start, moves-next, moves-last}
use Rattle.kin_counts.proofs.changes.lower_pairs.Goals as goal

pub loop-pair-init : goal.loop-pair-init
loop-pair-init c = moves-start lowered lowered-none c.args.counted.now c.args.which

pub loop-pair-preserved : goal.loop-pair-preserved
loop-pair-preserved c =
    moves-next lowered lowered-none lowered-twice (λ (p : Pair). p.user)
    (λ p. 1) c.args.which c.args.pairs.now c.loop-pair.pair-index c.args.counted.now c.loop-pair.counted c.lower_one.new.counted _
    c.loop-pair-test.true c.loop-pair.invariant c.lower_one.ensures

pub returns : goal.returns
returns c = moves-last lowered lowered-none lowered-twice (λ (p : Pair). p.user)
    (λ p. 1) c.args.which c.args.pairs.now c.loop-pair.pair-index c.args.counted.now c.loop-pair.counted c.loop-pair-test.false
    c.loop-pair.invariant
