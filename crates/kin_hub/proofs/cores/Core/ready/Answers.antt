use Rattle.std.proofs.Common.{◌≡◌, ◌<◌, ◌≤◌, ◌∙◌, ap, subst, length, arith}
use Rattle.kin_ids.proofs.Lines.{least-ge}
use Rattle.kin_table.specs.Tables.{reach_of, agreed_of}
use Rattle.kin_hub.specs.Cores.{CoreView, least_reach}
use Rattle.kin_hub.proofs.cores.Core.ready.Goals as goal

pub shared_end-requires-clause-ahead : goal.shared_end-requires-clause-ahead
shared_end-requires-clause-ahead c =
    let t = c.args.self.now.table in
    let i = c.args.i.0 in
    let some : 0 < length t.rows = subst (λ (v : CoreView). 0 < length v.table.rows) c.self.view_is c.self.invariant.0.table.parts in
    let le : agreed_of t i ≤ least_reach c.args.self.now i = least-ge (reach_of t 0 i) (length t.rows) (λ p. reach_of t p i) (agreed_of t i)
    (c.requires.reached 0 some) c.requires.reached in
    let agreed : c.agreed-agreed.result ≡ agreed_of t i = c.agreed-agreed.ensures
    ∙ ap (λ (v : CoreView). agreed_of v.table i) c.self.view_is in
    let reach : c.least_reach-reach.result ≡ least_reach c.args.self.now i = c.least_reach-reach.ensures in
    omega arith
