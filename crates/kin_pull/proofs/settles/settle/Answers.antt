use Rattle.kin_pull.proofs.Epochs.{quiet-law}
use Rattle.kin_pull.proofs.settles.settle.Goals as goal

pub returns-in_default-clause-layers : goal.returns-in_default-clause-layers
returns-in_default-clause-layers g c =
    quiet-law g.row.R-Value.Denot (g.R.PullRule.seen c.args.rule.now) g.R.PullRule.LAYERS
    (g.V.View.seen c.args.view.now) c.args.users.now c.args.kept.now (g.met.R.PullRule.laws c.args.rule.now) c.requires.on
    (c.in_ok-plan.ensures.none c.in_default.is)
