use Rattle.std.proofs.Common.{subst}
use Rattle.kin_pull.specs.States.{IsKept}
use Rattle.kin_pull.proofs.Epochs.{empty-law}
use Rattle.kin_pull.proofs.engines.PullEngine.new.Goals as goal

pub returns-clause-on : goal.returns-clause-on
returns-clause-on g c =
    empty-law g.row.R-Value.Denot (g.R.PullRule.seen c.args.rule) g.R.PullRule.LAYERS c.in_ok-nobody.field-0
    (g.met.R.PullRule.laws c.args.rule)
    (subst (λ n. IsKept n _ c.in_ok-nobody.field-0) c.LAYERS.ensures c.in_ok-nobody.ensures.kept)
