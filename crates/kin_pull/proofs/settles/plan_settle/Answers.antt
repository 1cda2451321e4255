use Rattle.kin_pull.proofs.Idle.{busy-found, idle-reads, none-busy, none-of}
use Rattle.kin_pull.proofs.settles.plan_settle.Goals as goal

pub returns-then-is_none-clause-none : goal.returns-then-is_none-clause-none
returns-then-is_none-clause-none g c = λ none.
    none-busy c.args.users.now c.args.kept.now (c.first_active.ensures.none (none-of c.first_active.result c.if-is_none.ensures))

pub returns-then-is_none-clause-reads : goal.returns-then-is_none-clause-reads
returns-then-is_none-clause-reads g c =
    idle-reads (g.R.PullRule.seen c.args.rule.now) (g.met.R.PullRule.laws c.args.rule.now) g.R.PullRule.LAYERS
    (g.V.View.seen c.args.view.now) c.args.users.now c.args.kept.now c.requires.on
    (none-busy c.args.users.now c.args.kept.now (c.first_active.ensures.none
    (none-of c.first_active.result c.if-is_none.ensures))) c.args.steps.now

pub returns-in_err-draft-clause-idle : goal.returns-in_err-draft-clause-idle
returns-in_err-draft-clause-idle g c = λ quiet. absurd
    (busy-found c.args.users.now c.args.kept.now g.R.PullRule.LAYERS c.requires.kept c.first_active.result c.first_active.ensures.some
    c.if-is_none.ensures quiet)

pub returns-clause-idle : goal.returns-clause-idle
returns-clause-idle g c = λ quiet. absurd
    (busy-found c.args.users.now c.args.kept.now g.R.PullRule.LAYERS c.requires.kept c.first_active.result c.first_active.ensures.some
    c.if-is_none.ensures quiet)
