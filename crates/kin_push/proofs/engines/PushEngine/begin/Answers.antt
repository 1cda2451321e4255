use Rattle.kin_changes.proofs.Edges.{edges-law}
use Rattle.kin_changes.proofs.Members.{vertices-law}
use Rattle.kin_push.proofs.EngineParts.{plan-begins, plan-fits}
use Rattle.kin_push.proofs.engines.PushEngine.begin.Goals as goal

pub enter-requires : goal.enter-requires
enter-requires g c = plan-fits (g.R.PushRule.seen c.args.self.now.rule) c.args.deltas.now c.args.self.now.state c.in_ok-plan.plan
    c.requires c.in_ok-plan.ensures

pub returns-clause-begins : goal.returns-clause-begins
returns-clause-begins g c =
    plan-begins edges-law vertices-law (g.R.PushRule.seen c.args.self.now.rule) (g.met.R.PushRule.laws c.args.self.now.rule)
    c.args.deltas.now c.args.self.now.state c.enter.new.self.state c.in_ok-plan.plan c.requires c.in_ok-plan.ensures
    c.enter.ensures.entered
