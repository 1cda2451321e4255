use Rattle.std.proofs.Common.{sym}
use Rattle.kin_held.proofs.Pieces.{end_of-last}
use Rattle.kin_held.proofs.runs.end_of.Goals as goal

pub returns-in-Some : goal.returns-in-Some
returns-in-Some c = sym (end_of-last c.args.floor c.args.pieces.now c.in-Some.piece.now (sym c.in-Some.ensures.value))
