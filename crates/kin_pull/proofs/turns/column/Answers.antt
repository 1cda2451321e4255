use Rattle.std.proofs.Common.{◌≡◌, ◌<◌, ◌∙◌, ap, List, map, get_or, arith}
use Rattle.kin_ids.specs.declared.ops.Half.{Half}
use Rattle.kin_rules.specs.declared.pull_rules.Side.{Side}
use Rattle.kin_rules.specs.Edges.{places_of}
use Rattle.kin_rules.specs.Layers.{blank}
use Rattle.kin_rules.specs.LayerTables.{present_ends, neighbours_seen}
use Rattle.kin_pull.specs.TurnSteps.{turned_input}
use Rattle.kin_pull.proofs.Tells.{ends-below}
use Rattle.kin_pull.proofs.Turned.{column-step, turned-next}
use Rattle.kin_pull.proofs.turns.column.Goals as goal

pub next_own-requires-clause-ends : goal.next_own-requires-clause-ends
next_own-requires-clause-ends g c = ends-below c.args.users.now (present_ends c.halves_on.result.now) c.as_slice-in-loop-layer.result.now
    (c.as_slice-in-loop-layer.ensures.value ∙ c.in_ok-row.ensures) _ c.requires.kept.facts

pub loop-layer-preserved : goal.loop-layer-preserved
loop-layer-preserved g c =
    let r = g.R.PullRule.seen c.args.rule.now in
    let v = g.V.View.seen c.args.view.now in
    let us = c.args.users.now in
    let k = c.args.kept.now in
    let u = c.args.u in
    let n = c.loop-layer.layer in
    let below : n < g.R.PullRule.LAYERS = omega (arith, c.loop-layer-test.true, c.LAYERS-layer-end.ensures) in
    let row : c.as_slice-in-loop-layer.result.now ≡ places_of us (neighbours_seen r.side v u) = c.as_slice-in-loop-layer.ensures.value
    ∙ (c.in_ok-row.ensures ∙ (ap (λ (hs : List Half). places_of us (present_ends hs)) c.halves_on.ensures.halves
    ∙ ap (λ (s : Side). places_of us (neighbours_seen s v u)) c.side.ensures)) in
    let value = c.in_ok-value.ensures (blank u) ∙ ap (λ col. r.next (get_or k.facts c.args.i (blank u)) (map (turned_input
    (blank u) c.args.first.now k col c.args.i n) c.as_slice-in-loop-layer.result.now)) c.as_slice.ensures.value in
    record {
      most = omega (arith, below);
      column = column-step r v us k u n c.loop-layer.column.items c.push.new.self.items c.in_ok-value.value c.loop-layer.invariant.column
          c.in_ok-push.ensures.items
          (turned-next r g.R.PullRule.LAYERS v us k c.requires.kept c.requires.on u c.args.i c.requires.at c.requires.within
          c.args.first.now c.requires.first c.loop-layer.column.items n c.as_slice-in-loop-layer.result.now row c.in_ok-value.value value);
    }
