use Rattle.std.proofs.Common.{◌≡◌, ◌+◌, ◌∙◌, ℕ, List, None, ap, ap₂, arith, refl, subst, sym}
use Rattle.std.specs.List.{flat_map}
use Rattle.kin_ids.specs.declared.ids.User.{User}
use Rattle.kin_rules.specs.declared.exposure_rules.UseK.{UseK}
use Rattle.kin_rules.specs.ExposureLists.{AreTallies}
use Rattle.kin_rules.specs.ExposureRule.{exposure_rule}
use Rattle.kin_rules.specs.RankRule.{rank_rule}
use Rattle.kin_rules.specs.Results.{ResultView}
use Rattle.kin_pull.specs.Settles.{settle_reads}
use Rattle.kin_pull.specs.States.{IsKept, IsQuiet, KeptView, On, keeping, net_in, row_in}
use Rattle.kin_scores.specs.Planned.{IsExposureDrafted}
use Rattle.kin_scores.specs.Scores.{AreQuiet, ScoresView}
use Rattle.kin_scores.specs.Turns.{AreSettled, IsSettledBy, scores_reads}
use Rattle.kin_scores.proofs.Shown.{expos-quiet, ranks-quiet}
use Rattle.kin_scores.proofs.scores.Scores.settle.Goals as goal

abbrev both : KeptView ℕ → KeptView (List UseK) → ScoresView
both ranks expos = record { ranks = ranks; expos = expos }

pub settle_exposures-requires-clause-planned : goal.settle_exposures-requires-clause-planned
settle_exposures-requires-clause-planned g c =
    subst (λ (us : List User). IsExposureDrafted (g.V.View.seen c.args.view.now) us c.settle_ranks.new.columns.tags c.self.inside.expos c.in_ok-expos.expos)
    (c.users-users.ensures.users ∙ sym (ap (λ (r : ResultView). r.users) c.settle_ranks.ensures.columns))
    (subst (λ (ts : List (List ℕ)). IsExposureDrafted (g.V.View.seen c.args.view.now) c.users-users.result.now ts c.self.inside.expos c.in_ok-expos.expos)
    (c.tags-tags.ensures.tags ∙ sym (ap (λ (r : ResultView). r.tags) c.settle_ranks.ensures.columns)) c.in_ok-expos.ensures.planned)

pub returns-clause-kept : goal.returns-clause-kept
returns-clause-kept g c = record {
  ranks = c.settle_ranks.ensures.kept;
  expos = subst (λ (us : List User). IsKept 1 us c.settle_exposures.new.expos) (ap (λ (r : ResultView). r.users) c.settle_ranks.ensures.columns) c.settle_exposures.ensures.kept;
}

pub returns-clause-on : goal.returns-clause-on
returns-clause-on g c = record {
  ranks = c.settle_ranks.ensures.on;
  expos = subst (λ (us : List User). On exposure_rule 1 (g.V.View.seen c.args.view.now) us c.settle_exposures.new.expos) (ap (λ (r : ResultView). r.users) c.settle_ranks.ensures.columns) c.settle_exposures.ensures.on;
}

pub returns-clause-shown : goal.returns-clause-shown
returns-clause-shown g c = record {
  ranks = ap (λ (r : ResultView). r.ranks) c.settle_exposures.ensures.rest ∙ ap (λ (r : ResultView). r.ranks) c.settle_ranks.ensures.columns;
  expos = subst (λ (ts : List (List ℕ)). AreTallies (flat_map (λ (row : List UseK). row) (row_in c.settle_exposures.new.expos 1)) ts c.settle_exposures.new.columns.expos)
      (sym (ap (λ (r : ResultView). r.tags) c.settle_exposures.ensures.rest)) c.settle_exposures.ensures.shown;
}

pub returns-clause-settles : goal.returns-clause-settles
returns-clause-settles g c =
    subst (λ (s : ScoresView). AreSettled (g.V.View.seen c.args.view.now) c.args.columns.now.users s (both c.settle_ranks.new.ranks c.settle_exposures.new.expos)) c.self.view_is (record {
      ranks = c.settle_ranks.ensures.settled;
      expos = subst (λ (us : List User). IsSettledBy exposure_rule 1 (g.V.View.seen c.args.view.now) us c.self.inside.expos c.settle_exposures.new.expos)
          (ap (λ (r : ResultView). r.users) c.settle_ranks.ensures.columns) c.settle_exposures.ensures.settled;
    })

pub returns-clause-quiet : goal.returns-clause-quiet
returns-clause-quiet g c = λ u.
    let settled = subst (λ (us : List User). IsSettledBy exposure_rule 1 (g.V.View.seen c.args.view.now) us c.self.inside.expos c.settle_exposures.new.expos)
    (ap (λ (r : ResultView). r.users) c.settle_ranks.ensures.columns) c.settle_exposures.ensures.settled in
    rw (c.settle_ranks.ensures.settled.quiet u, settled.quiet u) refl

pub returns-clause-reads : goal.returns-clause-reads
returns-clause-reads g c =
    let v = g.V.View.seen c.args.view.now in
    let a = subst (λ (us : List User). c.plan_ranks.new.steps ≡ c.args.steps.now + settle_reads rank_rule (net_in rank_rule.side v us c.self.inside.ranks) v (keeping rank_rule.first us c.self.inside.ranks) us 8)
    c.users-users.ensures.users c.in_ok-ranks.ensures.reads in
    let b = subst (λ (us : List User). c.plan_exposures.new.steps ≡ c.plan_ranks.new.steps + settle_reads exposure_rule (net_in exposure_rule.side v us c.self.inside.expos) v (keeping exposure_rule.first us c.self.inside.expos) us 1)
    c.users-users.ensures.users c.in_ok-expos.ensures.reads in
    let whole : c.plan_exposures.new.steps ≡ c.args.steps.now + scores_reads v c.args.columns.now.users (both c.self.inside.ranks c.self.inside.expos) = omega (arith, a, b) in
    subst (λ (s : ScoresView). c.plan_exposures.new.steps ≡ c.args.steps.now + scores_reads v c.args.columns.now.users s) c.self.view_is whole

pub returns-clause-idle : goal.returns-clause-idle
returns-clause-idle g c = λ quiet.
    let us = c.args.columns.now.users in
    let still : AreQuiet us (both c.self.inside.ranks c.self.inside.expos) = subst (AreQuiet us) (sym c.self.view_is) quiet in
    let r = c.in_ok-ranks.ensures.idle (subst (λ (xs : List User). IsQuiet xs c.self.inside.ranks) (sym c.users-users.ensures.users) (ranks-quiet us (both c.self.inside.ranks c.self.inside.expos) still)) in
    let e = c.in_ok-expos.ensures.idle (subst (λ (xs : List User). IsQuiet xs c.self.inside.expos) (sym c.users-users.ensures.users) (expos-quiet us (both c.self.inside.ranks c.self.inside.expos) still)) in
    let no-ranks : c.in_ok-ranks.ranks ≡ None = (let k = r.1 in cc) in
    let no-expos : c.in_ok-expos.expos ≡ None = (let k = e.1 in cc) in
    let after = c.settle_ranks.ensures.idle no-ranks in
    let last = c.settle_exposures.ensures.idle no-expos in (
      e.0 ∙ r.0,
      ap₂ both after.0 last.0 ∙ c.self.view_is,
      last.1 ∙ after.1,
    )
