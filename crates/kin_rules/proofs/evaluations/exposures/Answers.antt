use Rattle.std.proofs.Common.{◌∙◌, ◌<◌, All, List, ℕ, ap, sym, subst, length}
use Rattle.kin_rules.specs.declared.pull_rules.Facts.{Facts}
use Rattle.kin_rules.specs.declared.pull_rules.Side.TheVariants as side
use Rattle.kin_rules.specs.LayerTables.{facts_seen, neighbours_seen}
use Rattle.kin_rules.proofs.LayerRows.{row-places}
use Rattle.kin_rules.proofs.LayerViews.{places-within}
use Rattle.kin_rules.proofs.ExposureEntries.{exposure-more, exposure-all}
use Rattle.kin_rules.proofs.evaluations.exposures.Goals as goal

pub put_entries-requires : goal.put_entries-requires
put_entries-requires g c =
    let v = g.V.View.seen c.args.view.now in
    let places = places-within c.args.index.now (neighbours_seen side.Out v) c.args.facts.now (facts_seen v) c.in_ok-ends.ends c.requires.facts c.in_ok-ends.ensures in
    subst (λ (row : List ℕ). All (λ i. i < length c.args.facts.now) row) (sym c.row.ensures) (row-places (length c.args.facts.now) c.in_ok-ends.ends places c.loop-place.place)

pub loop-place-preserved : goal.loop-place-preserved
loop-place-preserved g c = λ h whole t k.
    exposure-more h (g.V.View.seen c.args.view.now) whole c.args.index.now c.requires.vertices c.args.facts.now c.in_ok-ends.ends c.requires.facts c.in_ok-ends.ensures t k c.loop-place.place
    c.index-facts-place.result c.row.result.now c.as_slice.result.now c.loop-place.entries.items c.put_entries.new.entries.items c.loop-place-test.true c.index-facts-place.is
    (c.as_slice.ensures ∙ ap (λ (f : Facts). f.uses) (sym c.index-facts-place.is)) c.row.ensures c.in_ok-put_entries.ensures (c.loop-place.invariant h whole t k)

pub returns : goal.returns
returns g c = λ h whole t k.
    exposure-all h (g.V.View.seen c.args.view.now) whole c.args.index.now c.requires.vertices c.args.facts.now c.in_ok-ends.ends c.requires.facts c.in_ok-ends.ensures t k c.loop-place.place
    c.loop-place.entries.items c.loop-place-test.false (c.loop-place.invariant h whole t k)
