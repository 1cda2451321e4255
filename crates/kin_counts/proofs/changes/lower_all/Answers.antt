use Rattle.std.proofs.Common.{List, subst, count_by}
use Rattle.kin_store.specs.declared.pairs.Pair.{Pair}
use Rattle.kin_changes.specs.Told.{is_of}
use Rattle.kin_rules.specs.declared.numbers.Num.TheVariants as num
use Rattle.kin_counts.specs.Changes.{Lowers, lowered, of_rule, went}
use Rattle.kin_counts.proofs.Moving.{went-start, went-next, all-taken}
use Rattle.kin_counts.proofs.changes.lower_all.Goals as goal

pub loop-delta-init : goal.loop-delta-init
loop-delta-init c = went-start c.args.counted.now

pub loop-delta-preserved : goal.loop-delta-preserved
loop-delta-preserved c =
    let before = c.loop-delta.counted in
    let first = c.lower_pairs.new.counted in
    let second = c.lower_pairs-in-loop-delta.new.counted in
    went-next c.args.deltas.now c.loop-delta.delta-index c.delta-item.result c.loop-delta-test.true c.delta-item.is c.args.counted.now
    before first second c.loop-delta.invariant
    (subst (λ (ps : List Pair). Lowers before (of_rule num.In (λ u. count_by (is_of u) ps)) first) c.gone_in.ensures c.lower_pairs.ensures)
    (subst (λ (ps : List Pair). Lowers first (of_rule num.Out (λ u. count_by
    (is_of u) ps)) second) c.gone_out.ensures c.lower_pairs-in-loop-delta.ensures)

pub returns : goal.returns
returns c = all-taken went lowered c.args.deltas.now c.loop-delta.delta-index c.args.counted.now c.loop-delta.counted
    c.loop-delta-test.false c.loop-delta.invariant
