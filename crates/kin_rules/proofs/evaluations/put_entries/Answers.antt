use Rattle.std.proofs.Common.{◌∙◌, ◌++◌, ap, ℕ, List, map}
use Rattle.std.proofs.lemmas.List.{take_all}
use Rattle.kin_ids.specs.declared.ops.Use.{Use}
use Rattle.kin_rules.specs.declared.exposure_rules.UseK.{UseK}
use Rattle.kin_rules.specs.ExposureEntries.{entry_among, uses_at}
use Rattle.kin_rules.proofs.ExposureEntries.{entries-more}
use Rattle.kin_rules.proofs.evaluations.put_entries.Goals as goal

pub loop-item-preserved : goal.loop-item-preserved
loop-item-preserved c = λ df.
    entries-more (entry_among (uses_at df c.args.facts.now c.args.ends.now)) c.args.uses.now c.loop-item.item-index c.item-item.result _ _ _ c.loop-item.entries.items c.push.new.self.items c.loop-item-test.true c.item-item.is
    (ap (λ (n : ℕ). let e : UseK = record { tag = c.item-item.result.tag; k = n } in e) (c.earlier_at.ensures df)) (c.loop-item.invariant df) c.in_ok-push.ensures.items

pub returns : goal.returns
returns c = λ df.
    c.loop-item.invariant df
    ∙ ap (λ (xs : List Use). c.args.entries.now.items ++ map (entry_among (uses_at df c.args.facts.now c.args.ends.now)) xs) (take_all c.loop-item.item-index c.args.uses.now c.loop-item-test.false)
