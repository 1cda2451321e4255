use Rattle.std.proofs.Common.{subst}
use Rattle.kin_store.proofs.Preceding.{precedes-indexed}
use Rattle.kin_graph.specs.State.{PartState}
use Rattle.kin_graph.specs.Changes.{kept, IsIndexed}
use Rattle.kin_graph.proofs.part_graphs.PartGraph.restore.Goals as goal

pub invariant_of-self : goal.invariant_of-self
invariant_of-self c = precedes-indexed (kept c.args.snap) (kept c.args.self.now) c.self.inside.index c.requires
    (subst (λ (s : PartState). IsIndexed (kept s) c.self.inside.index) c.self.view_is c.self.invariant)
