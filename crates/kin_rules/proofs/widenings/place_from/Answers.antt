use Rattle.std.proofs.Common.{sym, ◌∙◌}
use Rattle.kin_rules.proofs.WiderResults.{place-guessed}
use Rattle.kin_rules.proofs.widenings.place_from.Goals as goal

pub returns-then-eq : goal.returns-then-eq
returns-then-eq c = place-guessed c.args.users.now c.args.guess (record { 0 = 0 }) c.args.u c.requires c.if-guess-users.true (sym c.if-eq.true ∙ c.eq.ensures)
