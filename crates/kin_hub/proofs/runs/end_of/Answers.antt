use Rattle.std.proofs.Common.{sym}
use Rattle.kin_held.proofs.Pieces.{end_of-last}
use Rattle.kin_hub.proofs.runs.end_of.Goals as goal

pub returns-in-Some : goal.returns-in-Some
returns-in-Some c = sym (end_of-last c.args.at c.args.run.now c.in-Some.piece.now (sym c.in-Some.ensures.value))
