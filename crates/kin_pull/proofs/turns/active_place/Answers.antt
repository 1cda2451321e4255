use Rattle.std.proofs.Common.{◌∙◌, sym}
use Rattle.kin_rules.proofs.EdgeRows.{found-none}
use Rattle.kin_pull.proofs.Turned.{away-quiet}
use Rattle.kin_pull.proofs.turns.active_place.Goals as goal

pub returns-in_err-i-clause-none : goal.returns-in_err-i-clause-none
returns-in_err-i-clause-none g c = λ none. away-quiet c.args.users.now c.args.kept.now c.args.u c.requires.told c.requires.low
    (found-none c.args.users.now c.args.u (sym c.find.ensures.found ∙ c.in_err-i.was))
