use Rattle.std.proofs.Common.{◌≡◌, ◌∙◌, ap, sym, arith, length, map}
use Rattle.std.proofs.lemmas.List.{length-map}
use Rattle.kin_rules.specs.Layers.{layer}
use Rattle.kin_rules.proofs.LayerRows.{first-row}
use Rattle.kin_rules.proofs.layers.top_row.Goals as goal

pub loop-level-init : goal.loop-level-init
loop-level-init g c = record {
  most = omega arith;
  long = sym (ap (λ vs. length vs) c.in_ok-row.ensures ∙ length-map c.args.facts.now (λ x. (g.R.PullRule.seen c.args.rule.now).first));
  row = λ net users table. first-row (g.R.PullRule.seen c.args.rule.now) net users c.args.facts.now c.args.ends.now table c.in_ok-row.row.items c.in_ok-row.ensures;
}

pub loop-level-preserved : goal.loop-level-preserved
loop-level-preserved g c = record {
  most = omega (arith, c.loop-level-test.true, c.LAYERS-level-end.ensures);
  long = sym c.in_ok-next.ensures.long;
  row = λ net users table. c.in_ok-next.ensures.above net users c.loop-level.level table (c.as_slice.ensures.value ∙ c.loop-level.invariant.row net users table);
}

pub returns-clause-long : goal.returns-clause-long
returns-clause-long g c = sym c.loop-level.invariant.long

pub returns-clause-top : goal.returns-clause-top
returns-clause-top g c = λ net users table.
    let top : c.loop-level.level ≡ g.R.PullRule.LAYERS = omega (arith, c.loop-level.invariant.most, c.loop-level-test.false, c.LAYERS-level-end.ensures) in
    c.loop-level.invariant.row net users table ∙ ap (λ j. map (layer (g.R.PullRule.seen c.args.rule.now) net j) users) top
