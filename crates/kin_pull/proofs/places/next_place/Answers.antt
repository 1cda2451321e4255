use Rattle.std.proofs.Common.{◌∙◌, sym}
use Rattle.kin_rules.proofs.Places.{place-absent}
use Rattle.kin_rules.proofs.EdgeRows.{found-some, found-none}
use Rattle.kin_pull.proofs.places.next_place.Goals as goal

pub returns-in-Some : goal.returns-in-Some
returns-in-Some c = (found-some c.args.users.now c.args.u c.in-Some.i (sym c.find_next.ensures.found ∙ c.in-Some.is)).1

pub returns-in-None : goal.returns-in-None
returns-in-None c = sym (place-absent c.args.users.now c.args.u (found-none c.args.users.now c.args.u (sym c.find_next.ensures.found
    ∙ c.in-None.is)))
