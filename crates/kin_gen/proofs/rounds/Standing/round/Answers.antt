use Rattle.std.proofs.Common.{◌*◌, ◌<◌, ◌/◌, ◌%◌, get_or, subst, sym, arith}
use Rattle.kin_gen.specs.Rounds.{AreYoung}
use Rattle.kin_gen.proofs.Young.{young-turns}
use Rattle.kin_gen.proofs.rounds.Standing.round.Goals as goal

pub restart-requires-clause-young : goal.restart-requires-clause-young
restart-requires-clause-young c =
    let young : AreYoung c.args.number c.turns.new.self = subst (AreYoung c.args.number) (sym c.in_ok-turns.ensures.standing) (young-turns c.args.n c.args.number c.args.self.now c.requires.young) in
    let here : get_or c.turns.new.self.incs (c.args.number / 256 % 3) 0 * 256 < c.args.number = young (c.args.number / 256 % 3) in
    omega arith
