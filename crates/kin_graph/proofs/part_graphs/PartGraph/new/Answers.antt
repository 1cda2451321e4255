use Rattle.std.proofs.Common.{sym, subst}
use Rattle.kin_store.specs.Hints.{IndexView}
use Rattle.kin_store.proofs.Preceding.{indexed-empty}
use Rattle.kin_graph.specs.State.{PartState, empty_part}
use Rattle.kin_graph.specs.Changes.{kept, IsIndexed}
use Rattle.kin_graph.proofs.part_graphs.PartGraph.new.Goals as goal

pub invariant_of-result : goal.invariant_of-result
invariant_of-result c =
    let s : PartState = empty_part c.args.part.0 c.args.parts in
    subst (λ (t : PartState). IsIndexed (kept t) c.new-2.result) (sym c.in_ok-new.ensures)
    (subst (λ (x : IndexView). IsIndexed (kept s) x) (sym c.new-2.ensures) (indexed-empty c.args.part.0 c.args.parts))
