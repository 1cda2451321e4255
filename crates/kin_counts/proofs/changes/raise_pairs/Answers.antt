use Rattle.std.proofs.Common.{refl}
use Rattle.kin_store.specs.declared.pairs.Pair.{Pair}
use Rattle.kin_counts.specs.Changes.{raised}
use Rattle.kin_counts.proofs.Moving.{raised-twice, moves-start, moves-next, moves-last}
use Rattle.kin_counts.proofs.changes.raise_pairs.Goals as goal

pub loop-pair-init : goal.loop-pair-init
loop-pair-init c = moves-start raised (λ n. refl) c.args.counted.now c.args.which

pub loop-pair-preserved : goal.loop-pair-preserved
loop-pair-preserved c =
    moves-next raised (λ n. refl) raised-twice (λ (p : Pair). p.user)
    (λ p. 1) c.args.which c.args.pairs.now c.loop-pair.pair-index c.args.counted.now c.loop-pair.counted c.raise_one.new.counted _
    c.loop-pair-test.true c.loop-pair.invariant c.raise_one.ensures

pub returns : goal.returns
returns c = moves-last raised (λ n. refl) raised-twice (λ (p : Pair). p.user)
    (λ p. 1) c.args.which c.args.pairs.now c.loop-pair.pair-index c.args.counted.now c.loop-pair.counted c.loop-pair-test.false
    c.loop-pair.invariant
