use Rattle.std.proofs.Common.{map}
use Rattle.kin_pull.proofs.Drafts.{draft-entered}
use Rattle.kin_pull.proofs.settles.enter_settle.Goals as goal

pub returns-clause-on : goal.returns-clause-on
returns-clause-on g c =
    draft-entered (g.R.PullRule.seen c.args.rule.now) (g.V.View.seen c.args.view.now) c.args.users.now c.args.kept.now
    (g.met.R.PullRule.laws c.args.rule.now) g.R.PullRule.LAYERS c.requires.kept c.requires.on c.args.plan
    (map (λ r. r.items) c.plan.inside.draft.items) c.plan.view_is c.requires.plan c.take_over.new.self c.take_over.ensures
