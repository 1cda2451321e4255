use Rattle.std.proofs.Common.{◌∙◌, ◌+◌, ap, arith, length, map}
use Rattle.std.proofs.lemmas.List.{length_push, take_all}
use Rattle.kin_rules.specs.Layers.{layer}
use Rattle.kin_rules.proofs.LayerRows.{row-next, facts-long}
use Rattle.kin_rules.proofs.layers.row_by.Goals as goal

pub loop-k-preserved : goal.loop-k-preserved
loop-k-preserved g c = record {
  long = ap (λ vs. length vs) c.in_ok-push.ensures.items ∙ length_push c.loop-k.next.items c.in_ok-next_of.field-0 ∙ ap (λ n. n + 1) c.loop-k.invariant.long;
  above = λ net users j table are.
      row-next (g.R.PullRule.seen c.args.rule.now) net users c.args.facts.now c.args.ends.now table j c.loop-k.k c.args.row.now c.loop-k.next.items c.push.new.self.items c.index-facts-k.result c.row.result.now c.in_ok-next_of.field-0
      c.loop-k-test.true are c.index-facts-k.is c.row.ensures c.in_ok-next_of.ensures (c.loop-k.invariant.above net users j table are) c.in_ok-push.ensures.items;
}

pub returns-clause-above : goal.returns-clause-above
returns-clause-above g c = λ net users j table are.
    let long = facts-long (g.R.PullRule.seen c.args.rule.now) net users c.args.facts.now c.args.ends.now table in
    c.loop-k.invariant.above net users j table are
    ∙ ap (λ us. map (layer (g.R.PullRule.seen c.args.rule.now) net (j + 1)) us) (take_all c.loop-k.k users (omega (arith, c.loop-k-test.false, long)))
