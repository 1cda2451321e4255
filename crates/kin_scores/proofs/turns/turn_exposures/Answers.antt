use Rattle.std.proofs.Common.{◌==◌, ◌∙◌, List, [], cond, get_or, length, ap, arith, sym, subst}
use Rattle.std.specs.Prelude.{unwrap_or}
use Rattle.std.specs.List.{flat_map}
use Rattle.kin_ids.specs.declared.ids.User.{User}
use Rattle.kin_rules.specs.declared.exposure_rules.UseK.{UseK}
use Rattle.kin_rules.specs.ExposureLists.{AreTallies}
use Rattle.kin_rules.specs.Places.{place}
use Rattle.kin_rules.specs.Results.{ResultView}
use Rattle.kin_pull.specs.States.{row_in}
use Rattle.kin_pull.specs.TurnPlans.{planned_value}
use Rattle.kin_scores.specs.Planned.{IsExposurePlanned}
use Rattle.kin_scores.proofs.turns.turn_exposures.Goals as goal

pub returns-clause-shown : goal.returns-clause-shown
returns-clause-shown g c =
    let planned = subst (IsExposurePlanned (g.V.View.seen c.args.view.now) c.args.columns.now.users c.args.columns.now.tags c.args.expos.now c.args.u) c.in-Some.is c.requires.planned in
    subst (λ (r : ResultView). AreTallies (flat_map (λ (row : List UseK). row) (row_in c.enter_turn.new.kept 1)) c.args.columns.now.tags r.expos) (sym c.put_exposures.ensures)
    (planned.made (row_in c.enter_turn.new.kept 1) (
      c.enter_turn.ensures.kept.rows 0 (omega arith) ∙ ap length c.users.ensures.users,
      λ p. c.enter_turn.ensures.row 1 p []
          ∙ ap (λ (us : List User). cond (p == place us c.args.u) (unwrap_or (planned_value c.in-Some.planned.plan 1) []) (get_or (row_in c.args.expos.now 1) p [])) c.users.ensures.users,
    ))
