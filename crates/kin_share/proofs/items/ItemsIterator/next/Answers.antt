use Rattle.std.proofs.Common.{◌≡◌, ◌<◌, List, length, ap, ◌∙◌, arith}
use Rattle.kin_share.proofs.Joined.{full-at}
use Rattle.kin_share.proofs.items.ItemsIterator.next.Goals as goal

pub returns-in_err-first-clause-steps : goal.returns-in_err-first-clause-steps
returns-in_err-first-clause-steps g c =
    let cs : List (List g.row.T.Denot) = c.self.inside.full in
    let within : c.self.inside.next < length cs = omega (arith, c.if-self-len.true, c.len.ensures) in
    let whole : length c.chunk.result.now ≡ 64 = ap length c.chunk.ensures ∙ full-at cs c.self.inside.next c.self.invariant within in
    let none : length c.chunk.result.now ≡ 0 = c.in_err-first.ensures.cases in
    absurd (omega (arith, whole, none))
