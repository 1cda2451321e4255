use Rattle.std.proofs.Common.{◌∙◌, length, ap}
use Rattle.std.proofs.lemmas.List.{length-map}
use Rattle.std.proofs.lemmas.Result.{IfOk-weaker}
use Rattle.kin_rules.specs.declared.pull_rules.Side.TheVariants as side
use Rattle.kin_rules.specs.Layers.{layer}
use Rattle.kin_rules.specs.LayerTables.{facts_seen, neighbours_seen, net_within}
use Rattle.kin_rules.specs.RankRule.{rank_rule}
use Rattle.kin_rules.specs.RankRuleLaws.{rank-laws}
use Rattle.kin_rules.specs.Ranks.{rank}
use Rattle.kin_rules.proofs.RankRule.{ranks-are-layers}
use Rattle.kin_rules.proofs.LayerViews.{places-within, table-within, layer-whole, map-same}
use Rattle.kin_rules.proofs.evaluations.ranks.Goals as goal

pub top_row-requires : goal.top_row-requires
top_row-requires g c =
    let v = g.V.View.seen c.args.view.now in
    places-within c.args.index.now (neighbours_seen side.In v) c.args.facts.now (facts_seen v) c.in_ok-ends.ends c.requires.facts c.in_ok-ends.ensures

pub returns-clause-long : goal.returns-clause-long
returns-clause-long g c =
    IfOk-weaker c.top_row.result _ _ (λ ranks long. long ∙ ap length c.requires.facts ∙ length-map c.args.index.now (facts_seen (g.V.View.seen c.args.view.now))) c.top_row.ensures.long

pub returns-clause-ranks : goal.returns-clause-ranks
returns-clause-ranks g c =
    let v = g.V.View.seen c.args.view.now in
    let net = net_within c.args.index.now side.In v in
    IfOk-weaker c.top_row.result _ _ (λ ranks each h whole.
    each net c.args.index.now (table-within v side.In c.args.index.now c.args.facts.now c.in_ok-ends.ends c.requires.facts c.in_ok-ends.ensures)
    ∙ map-same (layer rank_rule net 8) (rank h) c.args.index.now (λ x. layer-whole h v whole c.args.index.now c.requires.vertices rank_rule rank-laws side.In 8 x ∙ ranks-are-layers h 8 x)) c.top_row.ensures.top
