-- An epoch that begins stands over its view.
use Rattle.std.proofs.Common.{ℕ, List}
use Rattle.kin_rules.specs.declared.exposure_rules.UseK.{UseK}
use Rattle.kin_rules.specs.ExposureRule.{exposure_rule}
use Rattle.kin_rules.specs.ExposureRuleLaws.{exposure-laws}
use Rattle.kin_rules.specs.RankRule.{rank_rule}
use Rattle.kin_rules.specs.RankRuleLaws.{rank-laws}
use Rattle.kin_pull.proofs.Epochs.{begin-law}
use Rattle.kin_scores.specs.Plans.{BeginLaw}
use Rattle.kin_scores.proofs.Shown.{expos-quiet, ranks-quiet}

pub begins : BeginLaw
begins was is ds us s more p led are on quiet begun = record {
  ranks = begin-law ℕ rank_rule 8 was is ds us s.ranks more p.ranks rank-laws led are on.ranks (ranks-quiet us s quiet) begun.ranks;
  expos = begin-law (List UseK) exposure_rule 1 was is ds us s.expos more p.expos exposure-laws led are on.expos (expos-quiet us s quiet) begun.expos;
}
