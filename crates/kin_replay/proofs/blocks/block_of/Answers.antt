use Rattle.std.proofs.Common.{◌≡◌, ◌-◌, List, Some, length, count_by, option_map, sym, ap, subst, ◌∙◌}
use Rattle.std.proofs.lemmas.Result.{IfOk-weaker}
use Rattle.kin_ids.specs.declared.ids.User.{User}
use Rattle.kin_ids.specs.declared.ops.Record.{Record}
use Rattle.kin_ids.specs.Operations.{is_bad}
use Rattle.kin_ids.specs.Order.{Entry, of_epoch, snapshot}
use Rattle.kin_history.specs.Vectors.{vector}
use Rattle.kin_mine.specs.Miners.{MinerView}
use Rattle.kin_rules.specs.Results.{IsResult}
use Rattle.kin_replay.specs.Counts.{AreWithin, position_in}
use Rattle.kin_replay.proofs.MinedBlocks.{cut-of-world, cut-is-world, are-within, block-is, no-refusal, at-rest, result-of, begun-cut-is}
use Rattle.kin_replay.proofs.blocks.block_of.Goals as goal

pub counts_of-counts-requires-clause-within : goal.counts_of-counts-requires-clause-within
counts_of-counts-requires-clause-within c =
    let m = c.requires.mined in
    subst (λ (feeds : List (List Record)). AreWithin feeds (position_in (option_map (λ x. x.now) c.cut_of-2.result)) (position_in (Some c.in-Some.cut.now))) (sym c.feeds.ensures)
    (are-within m.set c.args.world.now m.h m.stands c.args.k.0 m.some m.cut c.cut_of-2.result c.in-Some.cut.now (cut-of-world c.args.world.now c.hub-hub.result.now (c.args.k.0 - 1) c.cut_of-2.result c.hub-hub.ensures (c.cut_of-2.ensures.none, c.cut_of-2.ensures.cut))
    (cut-is-world c.args.world.now c.hub-hub.result.now c.args.k.0 c.in-Some.cut.now c.hub-hub.ensures c.in-Some.ensures.cut))

pub unreachable-requires-in_default-result : goal.unreachable-requires-in_default-result
unreachable-requires-in_default-result c =
    no-refusal c.args.world.now c.args.k.0 c.requires.mined c.result.result c.in_default-result.field-0 c.miner.result.now c.miner.ensures c.in_default-result.is c.result.ensures.not_begun c.result.ensures.active

pub returns : goal.returns
returns c = IfOk-weaker c.block.result _ _ (λ text said set h s is.
    let w = c.args.world.now in
    let k = c.args.k.0 in
    let g = snapshot set.feeds (vector set h) k in
    let was = position_in (option_map (λ x. x.now) c.cut_of-2.result) in
    let now = position_in (Some c.in-Some.cut.now) in
    let values : c.in-Ok.values.now ≡ w.miner.result = c.in-Ok.ensures.result ∙ ap (λ (m : MinerView). m.result) c.miner.ensures in
    let result : IsResult g w.miner.landmarks w.miner.result = result-of set w h s k (at-rest w k c.requires.mined) is in
    let shown = subst (λ (us : List User). IsResult g us c.in-Ok.values.now) c.requires.landmarks (subst (IsResult g w.miner.landmarks) (sym values) result) in
    said g shown ∙ block-is set w h s k c.requires.mined.some (begun-cut-is set h k is) c.cut_of-2.result c.in-Some.cut.now (cut-of-world c.args.world.now c.hub-hub.result.now (c.args.k.0 - 1) c.cut_of-2.result c.hub-hub.ensures (c.cut_of-2.ensures.none, c.cut_of-2.ensures.cut))
    (cut-is-world c.args.world.now c.hub-hub.result.now c.args.k.0 c.in-Some.cut.now c.hub-hub.ensures c.in-Some.ensures.cut) c.args.options.now c.counts_of-counts.result.records c.counts_of-counts.result.bad
    (c.counts_of-counts.ensures.records k ∙ ap (λ (feeds : List (List Record)). length (of_epoch feeds k was now (length feeds))) c.feeds.ensures)
    (c.counts_of-counts.ensures.bad k ∙ ap (λ (feeds : List (List Record)). count_by (λ (x : Entry). is_bad x.content) (of_epoch feeds k was now (length feeds))) c.feeds.ensures))
    c.block.ensures
