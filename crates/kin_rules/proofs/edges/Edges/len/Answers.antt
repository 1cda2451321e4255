use Rattle.std.proofs.Common.{◌≡◌, List, ℕ, length, ap, arith}
use Rattle.kin_rules.specs.Edges.{rows_from}
use Rattle.kin_rules.proofs.EdgeRows.{length-rows}
use Rattle.kin_rules.proofs.edges.Edges.len.Goals as goal

pub returns : goal.returns
returns c =
    let count = length-rows 0 c.self.inside.stops.items c.self.inside.ends.items in
    let same : length (rows_from 0 c.self.inside.stops.items c.self.inside.ends.items) ≡ length c.args.self.now
    = ap (λ (rows : List (List ℕ)). length rows) c.self.view_is in
    omega (arith, c.len.ensures, count, same)
