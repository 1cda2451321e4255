use Rattle.std.proofs.Common.{sym}
use Rattle.kin_push.proofs.TurnParts.{took-offer}
use Rattle.kin_push.proofs.turns.offer.Goals as goal

pub returns-clause-pushed : goal.returns-clause-pushed
returns-clause-pushed g c =
    took-offer c.args.users.now c.args.values.now c.args.active.now c.mark.new.self c.args.user c.place_of-place.result c.args.value
    c.place_of-place.ensures.place c.mark.ensures c.requires.state c.requires.there (sym c.if-not-exceeds.ensures)
