use Rattle.std.proofs.Common.{◌∙◌, ap}
use Rattle.kin_rules.specs.ExposureLists.{listed}
use Rattle.kin_rules.proofs.ExposureSteps.{listed-counted}
use Rattle.kin_rules.proofs.exposure_lists.tally_of.Goals as goal

pub returns : goal.returns
returns c = (
  c.in_ok-past_all.field-0,
  c.in_ok-past_all.ensures,
  c.of.ensures ∙ c.in_ok-list_of.ensures ∙ ap listed c.deref.ensures.value
      ∙ listed-counted c.in_ok-counts.counts.items c.args.ks.now c.in_ok-past_all.field-0 c.in_ok-counts.ensures,
)
