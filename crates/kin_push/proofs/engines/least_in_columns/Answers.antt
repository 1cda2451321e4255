use Rattle.std.proofs.Common.{sym, subst}
use Rattle.kin_push.specs.Engines.{IsLeastActive}
use Rattle.kin_push.specs.States.{state}
use Rattle.kin_push.proofs.EngineParts.{first-least}
use Rattle.kin_push.proofs.engines.least_in_columns.Goals as goal

pub returns-clause-some : goal.returns-clause-some
returns-clause-some c =
    subst (IsLeastActive (state c.args.columns.now.users.items c.args.columns.now.values.items c.args.columns.now.active))
    (sym c.index.ensures)
    (first-least c.args.columns.now.users.items c.args.columns.now.values.items c.args.columns.now.active c.in_ok-first.first
    c.index.result.now c.requires c.in_ok-first.ensures.some.0 c.in_ok-first.ensures.some.1 c.in_ok-first.ensures.some.2)
