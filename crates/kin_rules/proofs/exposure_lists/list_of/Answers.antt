use Rattle.std.proofs.Common.{◌∙◌, ap, arith}
use Rattle.kin_rules.proofs.ExposureSteps.{list-more, list-none}
use Rattle.kin_rules.proofs.exposure_lists.list_of.Goals as goal
use Rattle.kin_rules.proofs.exposure_lists.list_of.Goals.{then-users-gt0+in_ok-push, else-users-gt0}

pub loop-k-preserved : goal.loop-k-preserved
loop-k-preserved c = elim c.if-users-gt0.branch [
  | then-users-gt0+in_ok-push w ↦ ap (λ v. v.items) w.list-is ∙ w.in_ok-push.ensures.items ∙ list-more c.args.counts.now c.loop-k.k c.loop-k.list.items c.loop-k.invariant w.if-users-gt0.true
  | else-users-gt0 w ↦ ap (λ v. v.items) w.list-is ∙ list-none c.args.counts.now c.loop-k.k c.loop-k.list.items c.loop-k.invariant (let le = w.if-users-gt0.false in omega (arith, le))
]
