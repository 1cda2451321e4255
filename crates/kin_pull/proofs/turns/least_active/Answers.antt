use Rattle.std.proofs.Common.{◌<◌, get_or, length, arith}
use Rattle.std.proofs.lemmas.List.{get_or_default}
use Rattle.kin_pull.proofs.Idle.{least-busy}
use Rattle.kin_pull.proofs.turns.least_active.Goals as goal

pub returns-clause-some : goal.returns-clause-some
returns-clause-some g c =
    let us = c.args.users.now in
    let i = c.in_ok-i.i in
    let found = c.in_ok-i.ensures.some in
    let lt : i < length us = omega (arith, found.0, c.requires.low) in
    let u = get_or us i (record { 0 = 0 }) in
    least-busy us c.args.kept.now g.R.PullRule.LAYERS c.requires i u lt (get_or_default us i _ u lt) found.1 found.2
