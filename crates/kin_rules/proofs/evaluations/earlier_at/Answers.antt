use Rattle.std.proofs.Common.{◌+◌, ◌∙◌, ℕ, Bool, cond, ap, arith}
use Rattle.kin_rules.specs.ExposureRule.{is_earlier}
use Rattle.kin_rules.proofs.ExposureEntries.{earlier-more}
use Rattle.kin_rules.proofs.evaluations.earlier_at.Goals as goal

pub loop-end-preserved : goal.loop-end-preserved
loop-end-preserved c = record {
  few = omega (arith, c.loop-end.invariant.few, c.one_if-k.ensures.small);
  counted = λ df.
      earlier-more (is_earlier c.args.item.now) df c.index-facts-end.result c.args.facts.now c.args.ends.now c.loop-end.end-index c.loop-end.k _ c.as_slice.result.now c.loop-end-test.true
      (c.requires c.loop-end.end-index 0 c.loop-end-test.true) c.as_slice.ensures (c.loop-end.invariant.counted df)
      (ap (λ (n : ℕ). c.loop-end.k + n) (c.one_if-k.ensures.value ∙ ap {B = ℕ} (λ (b : Bool). cond b 1 0) c.is_earlier.ensures));
}
