use Rattle.std.proofs.Common.{◌≡◌, Some, length, option_map, sym, arith}
use Rattle.kin_replay.specs.Counts.{position_in}
use Rattle.kin_replay.proofs.Counting.{count-more}
use Rattle.kin_replay.proofs.counts.counts_of.Goals as goal

pub loop-node-preserved : goal.loop-node-preserved
loop-node-preserved c =
    let was = position_in (option_map (λ x. x.now) c.args.was) in
    let now = position_in (Some c.args.now.now) in
    count-more c.args.feeds.now was now c.loop-node.node c.loop-node.counts.records c.loop-node.counts.bad c.position-from.result c.position-to.result c.bad_between.result c.index-feeds-node.result
    c.requires.within c.loop-node-test.true c.index-feeds-node.is c.position-from.ensures c.position-to.ensures c.bad_between.ensures c.loop-node.invariant

pub returns-clause-records : goal.returns-clause-records
returns-clause-records c e =
    let all : c.loop-node.node ≡ length c.args.feeds.now = let a = c.loop-node-test.false in let b = c.loop-node.auto.node-end in omega (arith, a, b) in
    rw (sym all) (c.loop-node.invariant.records_are e)

pub returns-clause-bad : goal.returns-clause-bad
returns-clause-bad c e =
    let all : c.loop-node.node ≡ length c.args.feeds.now = let a = c.loop-node-test.false in let b = c.loop-node.auto.node-end in omega (arith, a, b) in
    rw (sym all) (c.loop-node.invariant.bad_are e)
