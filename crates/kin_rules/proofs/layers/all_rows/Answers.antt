use Rattle.std.proofs.Common.{◌≡◌, ◌∙◌, ◌+◌, ℕ, ap, sym, arith, length, map, subst}
use Rattle.std.proofs.lemmas.List.{length-map}
use Rattle.kin_rules.specs.LayerTables.{AreRows}
use Rattle.kin_rules.proofs.LayerRows.{first-row, rows-start, rows-next}
use Rattle.kin_rules.proofs.layers.all_rows.Goals as goal

pub loop-level-init : goal.loop-level-init
loop-level-init g c = record {
  most = omega arith;
  long = sym (ap (λ vs. length vs) c.in_ok-row.ensures ∙ length-map c.args.facts.now (λ x. (g.R.PullRule.seen c.args.rule.now).first));
  rows = λ net users table. rows-start (g.R.PullRule.seen c.args.rule.now) net users (λ r. r.items) c.new-rows.result.items c.new-rows.ensures.items;
  row = λ net users table. first-row (g.R.PullRule.seen c.args.rule.now) net users c.args.facts.now c.args.ends.now table c.in_ok-row.row.items c.in_ok-row.ensures;
}

pub loop-level-preserved : goal.loop-level-preserved
loop-level-preserved g c = record {
  most = omega (arith, c.loop-level-test.true, c.LAYERS-level-end.ensures);
  long = sym (ap (λ r. length r.items) c.replace.ensures.after ∙ c.in_ok-next.ensures.long);
  rows = λ net users table.
      rows-next (g.R.PullRule.seen c.args.rule.now) net users c.args.facts.now c.args.ends.now table (λ r. r.items) c.loop-level.rows.items c.push.new.self.items c.replace.result c.loop-level.level
      (c.loop-level.invariant.rows net users table) (ap (λ r. r.items) c.replace.ensures.value ∙ c.loop-level.invariant.row net users table) c.in_ok-push.ensures.items;
  row = λ net users table. ap (λ r. r.items) c.replace.ensures.after ∙ c.in_ok-next.ensures.above net users c.loop-level.level table (c.as_slice.ensures.value ∙ c.loop-level.invariant.row net users table);
}

pub returns : goal.returns
returns g c = λ net users table.
    let top : c.loop-level.level ≡ g.R.PullRule.LAYERS = omega (arith, c.loop-level.invariant.most, c.loop-level-test.false, c.LAYERS-level-end.ensures) in
    subst (λ (n : ℕ). AreRows (g.R.PullRule.seen c.args.rule.now) net users (n + 1) (map (λ r. r.items) c.push-2.new.self.items)) top
    (rows-next (g.R.PullRule.seen c.args.rule.now) net users c.args.facts.now c.args.ends.now table (λ r. r.items) c.loop-level.rows.items c.push-2.new.self.items c.loop-level.row c.loop-level.level
    (c.loop-level.invariant.rows net users table) (c.loop-level.invariant.row net users table) c.in_ok-push-2.ensures.items)
