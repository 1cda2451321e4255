use Rattle.std.proofs.Common.{◌∙◌, ℕ, List, length, ap, arith, sym}
use Rattle.kin_rules.specs.declared.exposure_rules.UseK.{UseK}
use Rattle.kin_rules.specs.ExposureRule.{exposure_rule}
use Rattle.kin_rules.specs.ExposureRuleLaws.{exposure-laws}
use Rattle.kin_rules.specs.RankRule.{rank_rule}
use Rattle.kin_rules.specs.RankRuleLaws.{rank-laws}
use Rattle.kin_pull.proofs.Epochs.{empty-law}
use Rattle.kin_scores.proofs.Rows.{nil-of}
use Rattle.kin_scores.proofs.scores.Scores.nobody.Goals as goal

pub returns-clause-on : goal.returns-clause-on
returns-clause-on c = record {
  ranks = empty-law ℕ rank_rule 8 c.in_ok-nobody.field-0 rank-laws c.in_ok-nobody.ensures.kept;
  expos = empty-law (List UseK) exposure_rule 1 c.in_ok-nobody-2.field-0 exposure-laws c.in_ok-nobody-2.ensures.kept;
}

pub returns-clause-shown : goal.returns-clause-shown
returns-clause-shown c = λ r ranks tags expos. record {
  ranks = ranks ∙ sym (nil-of _ (c.in_ok-nobody.ensures.kept.rows 7 (omega arith)));
  expos = record {
    long = ap length expos ∙ sym (ap length tags);
    each = λ i lt. absurd (let e = ap length tags in omega (arith, e, lt));
  };
}
