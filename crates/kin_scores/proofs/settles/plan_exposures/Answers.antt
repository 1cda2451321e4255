use Rattle.std.proofs.Common.{◌∙◌, List, subst}
use Rattle.kin_rules.specs.declared.exposure_rules.UseK.{UseK}
use Rattle.kin_rules.specs.ExposureLists.{AreTallies}
use Rattle.kin_rules.specs.ExposureRule.{exposure_rule}
use Rattle.kin_scores.specs.Planned.{IsDrafted}
use Rattle.kin_scores.proofs.Settled.{drafted-is}
use Rattle.kin_scores.proofs.settles.plan_exposures.Goals as goal

pub returns-clause-planned : goal.returns-clause-planned
returns-clause-planned g c =
    let planned = subst (IsDrafted exposure_rule 1 (g.V.View.seen c.args.view.now) c.args.users.now c.args.expos.now) c.in-Some.is
    (drafted-is exposure_rule 1 (g.V.View.seen c.args.view.now) c.args.users.now c.args.expos.now c.in_ok-plan.field-0
    c.in_ok-plan.ensures.none c.in_ok-plan.ensures.idle c.in_ok-plan.ensures.draft) in
    record {
      busy = planned.0;
      draft = planned.1;
      lists = c.in_ok-lists.ensures.lists;
      made = λ row is. subst (λ (es : List UseK). AreTallies es c.args.tags.now c.in_ok-lists.lists.items) (c.as_slice.ensures.value ∙ c.in_ok-entries.ensures row is) c.in_ok-lists.ensures.tallies;
    }
