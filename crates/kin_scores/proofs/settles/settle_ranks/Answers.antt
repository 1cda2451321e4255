use Rattle.std.proofs.Common.{subst}
use Rattle.kin_rules.specs.RankRule.{rank_rule}
use Rattle.kin_rules.specs.RankRuleLaws.{rank-laws}
use Rattle.kin_scores.specs.Planned.{IsDrafted}
use Rattle.kin_scores.proofs.Settled.{settled-idle, settled-some}
use Rattle.kin_scores.proofs.settles.settle_ranks.Goals as goal

pub returns-in_default-clause-settled : goal.returns-in_default-clause-settled
returns-in_default-clause-settled g c = settled-idle rank_rule 8 (g.V.View.seen c.args.view.now) c.args.columns.now.users c.args.ranks.now rank-laws c.requires.on
    (subst (IsDrafted rank_rule 8 (g.V.View.seen c.args.view.now) c.args.columns.now.users c.args.ranks.now) c.in_default.is c.requires.planned)

pub returns-clause-settled : goal.returns-clause-settled
returns-clause-settled g c = settled-some rank_rule 8 (g.V.View.seen c.args.view.now) c.users.result.now c.args.columns.now.users c.args.ranks.now c.enter_settle.new.kept c.users.ensures.users
    c.enter_settle.ensures.layers c.enter_settle.ensures.quiet
    (subst (IsDrafted rank_rule 8 (g.V.View.seen c.args.view.now) c.args.columns.now.users c.args.ranks.now) c.in-Some.is c.requires.planned).0
