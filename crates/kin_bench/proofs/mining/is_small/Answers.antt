use Rattle.std.proofs.Common.{◌∙◌, arith, sym}
use Rattle.std.proofs.lemmas.Bool.Decides.{nat_tests}
use Rattle.kin_blocks.specs.Snaps.{joined}
use Rattle.kin_rules.proofs.SmallViews.{few-small}
use Rattle.kin_bench.proofs.mining.is_small.Goals as goal

pub returns : goal.returns
returns c = λ small.
    few-small (joined c.args.snap.now) c.in_ok-users.users.items (λ u h. c.in_ok-users.ensures.vertices u ∙ h) (grind (arith, nat_tests, small))
