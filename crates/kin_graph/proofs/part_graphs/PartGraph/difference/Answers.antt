use Rattle.std.proofs.Common.{◌≡◌, subst, sym}
use Rattle.std.proofs.lemmas.Result.{IfOk-weaker}
use Rattle.kin_store.specs.State.{PartState, view_of}
use Rattle.kin_store.specs.Changes.{kept}
use Rattle.kin_store.specs.Hints.{IsIndexed}
use Rattle.kin_store.proofs.Preceding.{precedes-indexed}
use Rattle.kin_graph.specs.Deltas.{DeltaLists, IsDelta}
use Rattle.kin_graph.specs.Gathered.{IsFilled}
use Rattle.kin_graph.proofs.Exact.{delta-exact}
use Rattle.kin_graph.proofs.part_graphs.PartGraph.difference.Goals as goal

pub told-requires-clause-was : goal.told-requires-clause-was
told-requires-clause-was c =
    precedes-indexed (kept c.args.old.now) (kept c.args.self.now) c.self.inside.index c.requires.stays
    (subst (λ (s : PartState). IsIndexed (kept s) c.self.inside.index) c.self.view_is c.self.invariant)

pub returns : goal.returns
returns c =
    let lists = c.in_ok-lists.lists in
    let filled : IsFilled c.args.touched.now (view_of c.args.old.now) (view_of c.args.self.now) lists =
    subst (λ (s : PartState). IsFilled c.args.touched.now (view_of c.args.old.now) (view_of s) lists) c.self.view_is
    c.in_ok-lists.ensures.filled in
    let exact : IsDelta (view_of c.args.old.now) (view_of c.args.self.now) lists =
    delta-exact c.args.touched.now (view_of c.args.old.now) (view_of c.args.self.now) c.requires.touched c.in_ok-lists.ensures.noted lists
    filled in
    IfOk-weaker c.of.result (λ d. d ≡ lists) (λ d. IsDelta (view_of c.args.old.now) (view_of c.args.self.now) d)
    (λ d e. subst (λ (l : DeltaLists). IsDelta (view_of c.args.old.now) (view_of c.args.self.now) l) (sym e) exact) c.of.ensures
