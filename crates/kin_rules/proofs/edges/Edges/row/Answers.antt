use Rattle.std.proofs.Common.{◌≤◌, ◌<◌, ◌∙◌, [], List, ℕ, get_or, length, sym, ap, arith}
use Rattle.std.proofs.lemmas.List.{get_or_default}
use Rattle.kin_rules.proofs.EdgeRows.{row-at, no-row, start-stop, stop-end}
use Rattle.kin_rules.proofs.edges.Edges.row.Goals as goal

pub returns-then-place-len : goal.returns-then-place-len
returns-then-place-len c =
    let past : length c.self.inside.stops.items ≤ c.args.place = omega (arith, c.len.ensures, c.if-place-len.true) in
    sym (ap (λ (rows : List (List ℕ)). get_or rows c.args.place []) (sym c.self.view_is) ∙ no-row 0 c.self.inside.stops.items c.self.inside.ends.items c.args.place past)

pub between-requires-clause-order : goal.between-requires-clause-order
between-requires-clause-order c =
    let lt : c.args.place < length c.self.inside.stops.items = omega (arith, c.len.ensures, c.if-place-len.false) in
    let order = start-stop 0 c.self.inside.stops.items (length c.self.inside.ends.items) c.args.place c.self.invariant lt in
    let start = rw c.as_slice-2.ensures.value at c.start_of.ensures in
    let stop = c.index.ensures ∙ get_or_default c.self.inside.stops.items c.args.place c.index.result.now 0 lt in
    omega (arith, order, start, stop)

pub between-requires-clause-inside : goal.between-requires-clause-inside
between-requires-clause-inside c =
    let lt : c.args.place < length c.self.inside.stops.items = omega (arith, c.len.ensures, c.if-place-len.false) in
    let inside = stop-end 0 c.self.inside.stops.items (length c.self.inside.ends.items) c.args.place c.self.invariant lt in
    let stop = c.index.ensures ∙ get_or_default c.self.inside.stops.items c.args.place c.index.result.now 0 lt in
    let same = ap length c.as_slice.ensures.value in
    omega (arith, inside, stop, same)

pub returns : goal.returns
returns c =
    let lt : c.args.place < length c.self.inside.stops.items = omega (arith, c.len.ensures, c.if-place-len.false) in
    let start = rw c.as_slice-2.ensures.value at c.start_of.ensures in
    let stop = c.index.ensures ∙ get_or_default c.self.inside.stops.items c.args.place c.index.result.now 0 lt in
    let row = row-at 0 c.self.inside.stops.items c.self.inside.ends.items c.args.place lt in
    c.between.ensures ∙ rw (c.as_slice.ensures.value, start, stop) (sym row ∙ ap (λ (rows : List (List ℕ)). get_or rows c.args.place []) c.self.view_is)
