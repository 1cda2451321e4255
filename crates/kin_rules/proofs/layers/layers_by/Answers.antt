use Rattle.std.proofs.Common.{◌∙◌, ap, sym, subst, map, List}
use Rattle.kin_ids.specs.declared.ids.User.{User}
use Rattle.kin_graph.specs.Views.{AreVertices}
use Rattle.kin_rules.specs.declared.pull_rules.Side.{Side}
use Rattle.kin_rules.specs.LayerTables.{facts_seen, neighbours_seen, net_within}
use Rattle.kin_rules.specs.Edges.{rows_of}
use Rattle.kin_rules.proofs.LayerViews.{places-within, table-within, rows-read}
use Rattle.kin_rules.proofs.layers.layers_by.Goals as goal

pub all_rows-requires : goal.all_rows-requires
all_rows-requires g c =
    let v = g.V.View.seen c.args.view.now in
    places-within c.in_ok-index.index (neighbours_seen c.side.result v) c.as_slice-3.result.now (facts_seen v) c.in_ok-ends.ends
    (c.as_slice-3.ensures.value ∙ c.in_ok-facts.ensures ∙ ap (λ (us : List User). map (facts_seen v) us) c.as_slice-2.ensures) c.in_ok-ends.ensures

pub returns-clause-values : goal.returns-clause-values
returns-clause-values g c = λ h whole u j.
    let v = g.V.View.seen c.args.view.now in
    let rule = g.R.PullRule.seen c.args.rule.now in
    let index = c.in_ok-index.index in
    let are : AreVertices v index = subst (λ (us : List User). AreVertices v us) (sym (c.in_ok-index.ensures ∙ c.as_slice.ensures.value)) (record { ascend = c.in_ok-users.ensures.ascend; all = c.in_ok-users.ensures.vertices }) in
    let table = table-within v rule.side index c.as_slice-3.result.now c.in_ok-ends.ends
    (c.as_slice-3.ensures.value ∙ c.in_ok-facts.ensures ∙ ap (λ (us : List User). map (facts_seen v) us) c.as_slice-2.ensures)
    (c.in_ok-ends.ensures ∙ ap (λ (s : Side). rows_of index (neighbours_seen s v)) c.side.ensures) in
    rows-read h v whole index are rule (g.met.R.PullRule.laws c.args.rule.now) g.R.PullRule.LAYERS _ (c.in_ok-rows.ensures (net_within index rule.side v) index table) u j
