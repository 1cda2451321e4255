use Rattle.std.proofs.Common.{ap, ℕ}
use Rattle.kin_rules.specs.ExposureRule.{use_k}
use Rattle.kin_rules.specs.declared.exposure_rules.UseK.{UseK}
use Rattle.kin_rules.proofs.Pushes.{mapped-push}
use Rattle.kin_rules.proofs.exposure_rules.entries.Goals as goal

pub loop-item-preserved : goal.loop-item-preserved
loop-item-preserved c =
    mapped-push (use_k c.args.inputs.now) _ c.args.own.now.uses c.loop-item.item-index c.item-item.result _ _ c.loop-item.entries.items c.push.new.self.items c.as_slice-item-items.ensures c.loop-item-test.true c.item-item.is
    (ap (λ (n : ℕ). let e : UseK = record { tag = c.item-item.result.tag; k = n } in e) c.earlier.ensures) c.loop-item.invariant c.in_ok-push.ensures.items
