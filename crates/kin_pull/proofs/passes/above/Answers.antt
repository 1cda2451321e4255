use Rattle.std.proofs.Common.{◌∙◌, ap, get_or, map, refl}
use Rattle.kin_rules.specs.declared.pull_rules.Side.{Side}
use Rattle.kin_rules.specs.Edges.{places_of}
use Rattle.kin_rules.specs.Layers.{blank}
use Rattle.kin_rules.specs.LayerTables.{neighbours_seen}
use Rattle.kin_rules.proofs.LayerRows.{if-some}
use Rattle.kin_pull.specs.Passes.{lent_at}
use Rattle.kin_pull.proofs.Rows.{ok-more}
use Rattle.kin_pull.proofs.Tells.{above-is, ends-below}
use Rattle.kin_pull.proofs.passes.above.Goals as goal

pub next_at-requires-clause-ends : goal.next_at-requires-clause-ends
next_at-requires-clause-ends g c = ends-below c.args.users.now (neighbours_seen c.side.result
    (g.V.View.seen c.args.view.now) c.args.user) c.row.result.now
    (if-some _ _ _ c.in_ok-read.ensures.there c.row.ensures) _ c.requires.kept.facts

pub returns-clause-value : goal.returns-clause-value
returns-clause-value g c =
    let r = g.R.PullRule.seen c.args.rule.now in
    let v = g.V.View.seen c.args.view.now in
    ok-more _ _ c.next_at.result
    (λ value is. above-is r g.R.PullRule.LAYERS v c.args.users.now c.args.kept.now c.args.layer c.args.drawn.now c.args.user c.args.i
    c.requires.at c.requires.on c.requires.kept.facts c.args.first.now c.requires.first
    (get_or c.args.kept.now.facts c.args.i (blank c.args.user)) refl c.row.result.now
    (if-some _ _ _ c.in_ok-read.ensures.there c.row.ensures
    ∙ ap (λ (s : Side). places_of c.args.users.now (neighbours_seen s v c.args.user)) c.side.ensures)
    (map (lent_at (blank c.args.user) c.args.first.now c.args.kept.now c.args.layer c.args.drawn.now) c.row.result.now) refl
    value (is (blank c.args.user))) c.next_at.ensures
