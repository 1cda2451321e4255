use Rattle.std.proofs.Common.{◌∙◌, ap}
use Rattle.kin_rules.specs.ExposureRule.{use_k_order}
use Rattle.kin_rules.specs.ExposureRuleLaws.{entries-exact}
use Rattle.kin_rules.specs.Top.{in_order}
use Rattle.kin_rules.proofs.Cuts.{sorted-is}
use Rattle.kin_rules.proofs.exposure_rules.ExposurePullRule.next.Goals as goal

pub returns : goal.returns
returns c = c.of.ensures ∙ sorted-is entries-exact _ _ c.sort_unstable.ensures.permutation c.sort_unstable.ensures.sorted ∙ ap (in_order use_k_order) c.in_ok-entries.ensures
