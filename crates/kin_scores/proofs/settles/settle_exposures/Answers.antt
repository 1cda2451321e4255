use Rattle.std.proofs.Common.{◌∙◌, List, [], length, ap, arith, sym, subst}
use Rattle.std.specs.List.{flat_map}
use Rattle.kin_rules.specs.declared.exposure_rules.UseK.{UseK}
use Rattle.kin_rules.specs.ExposureLists.{AreTallies}
use Rattle.kin_rules.specs.ExposureRule.{exposure_rule}
use Rattle.kin_rules.specs.Results.{ResultView}
use Rattle.kin_pull.specs.States.{row_in}
use Rattle.kin_scores.specs.Planned.{IsExposureDrafted}
use Rattle.kin_scores.proofs.Settled.{settled-some}
use Rattle.kin_scores.proofs.settles.settle_exposures.Goals as goal

pub returns-clause-settled : goal.returns-clause-settled
returns-clause-settled g c = settled-some exposure_rule 1 (g.V.View.seen c.args.view.now) c.users.result.now c.args.columns.now.users c.args.expos.now c.enter_settle.new.kept c.users.ensures.users
    c.enter_settle.ensures.layers c.enter_settle.ensures.quiet
    (subst (IsExposureDrafted (g.V.View.seen c.args.view.now) c.args.columns.now.users c.args.columns.now.tags c.args.expos.now) c.in-Some.is c.requires.planned).busy

pub returns-clause-shown : goal.returns-clause-shown
returns-clause-shown g c =
    let planned = subst (IsExposureDrafted (g.V.View.seen c.args.view.now) c.args.columns.now.users c.args.columns.now.tags c.args.expos.now) c.in-Some.is c.requires.planned in
    subst (λ (r : ResultView). AreTallies (flat_map (λ (row : List UseK). row) (row_in c.enter_settle.new.kept 1)) c.args.columns.now.tags r.expos) (sym c.put_exposures.ensures)
    (planned.made (row_in c.enter_settle.new.kept 1) (c.enter_settle.ensures.kept.rows 0 (omega arith) ∙ ap length c.users.ensures.users, λ p. c.enter_settle.ensures.values 1 p []))
