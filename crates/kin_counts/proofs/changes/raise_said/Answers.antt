use Rattle.std.proofs.Common.{refl}
use Rattle.kin_graph.specs.declared.deltas.SaidRow.{SaidRow}
use Rattle.kin_rules.specs.declared.numbers.Num.TheVariants as num
use Rattle.kin_counts.specs.Changes.{raised}
use Rattle.kin_counts.proofs.Moving.{raised-twice, moves-start, moves-next, moves-last}
use Rattle.kin_counts.proofs.changes.raise_said.Goals as goal

pub loop-row-init : goal.loop-row-init
loop-row-init c = moves-start raised (λ n. refl) c.args.counted.now num.Said

pub loop-row-preserved : goal.loop-row-preserved
loop-row-preserved c =
    moves-next raised (λ n. refl) raised-twice (λ (x : SaidRow). x.user)
    (λ (x : SaidRow). x.number) num.Said c.args.rows.now c.loop-row.row-index c.args.counted.now c.loop-row.counted
    c.raise_one.new.counted _
    c.loop-row-test.true c.loop-row.invariant c.raise_one.ensures

pub returns : goal.returns
returns c =
    moves-last raised (λ n. refl) raised-twice (λ (x : SaidRow). x.user)
    (λ (x : SaidRow). x.number) num.Said c.args.rows.now c.loop-row.row-index c.args.counted.now c.loop-row.counted
    c.loop-row-test.false c.loop-row.invariant
