use Rattle.std.proofs.Common.{◌∙◌}
use Rattle.kin_rules.proofs.ExposureSteps.{no-rows}
use Rattle.kin_rules.proofs.exposure_lists.rows_of_tags.Goals as goal

pub loop-entry-init : goal.loop-entry-init
loop-entry-init c = c.in_ok-rows.ensures ∙ no-rows c.args.tags.now
