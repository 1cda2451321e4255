use Rattle.std.proofs.Common.{List, subst, count_by}
use Rattle.kin_store.specs.declared.pairs.Pair.{Pair}
use Rattle.kin_graph.specs.declared.deltas.SaidRow.{SaidRow}
use Rattle.kin_changes.specs.Told.{is_of}
use Rattle.kin_rules.specs.declared.numbers.Num.TheVariants as num
use Rattle.kin_counts.specs.Changes.{Raises, raised, of_rule, came}
use Rattle.kin_counts.proofs.Moving.{said_in, came-start, came-next, all-taken}
use Rattle.kin_counts.proofs.changes.raise_all.Goals as goal

pub loop-delta-init : goal.loop-delta-init
loop-delta-init c = came-start c.args.counted.now

pub loop-delta-preserved : goal.loop-delta-preserved
loop-delta-preserved c =
    let before = c.loop-delta.counted in
    let first = c.raise_pairs.new.counted in
    let second = c.raise_pairs-in-loop-delta.new.counted in
    let third = c.raise_said.new.counted in
    came-next c.args.deltas.now c.loop-delta.delta-index c.delta-item.result c.loop-delta-test.true c.delta-item.is c.args.counted.now
    before first second third c.loop-delta.invariant
    (subst (λ (ps : List Pair). Raises before (of_rule num.In (λ u. count_by (is_of u) ps)) first) c.now_in.ensures c.raise_pairs.ensures)
    (subst (λ (ps : List Pair). Raises first (of_rule num.Out (λ u. count_by
    (is_of u) ps)) second) c.now_out.ensures c.raise_pairs-in-loop-delta.ensures)
    (subst (λ (rows : List SaidRow). Raises second (of_rule num.Said (λ u. said_in u rows)) third) c.said.ensures c.raise_said.ensures)

pub returns : goal.returns
returns c = all-taken came raised c.args.deltas.now c.loop-delta.delta-index c.args.counted.now c.loop-delta.counted
    c.loop-delta-test.false c.loop-delta.invariant
