use Rattle.std.proofs.Common.{◌≡◌, ap, ◌∙◌, arith}
use Rattle.kin_graph.specs.State.{PartState, view_of}
use Rattle.kin_graph.proofs.Fitting.{empty-said}
use Rattle.kin_graph.proofs.store_tests.a_long_list_in_two_versions.Goals as goal

pub put-requires-clause-said : goal.put-requires-clause-said
put-requires-clause-said g c = λ u.
    let none : (view_of c.in_ok-store.store).said u ≡ 0 = ap (λ (s : PartState). (view_of s).said u) c.in_ok-store.ensures
    ∙ empty-said 0 1 u in
    omega (arith, none)

pub put-requires-2-clause-said : goal.put-requires-2-clause-said
put-requires-2-clause-said g c = λ u.
    let none : (view_of c.in_ok-store.store).said u ≡ 0 = ap (λ (s : PartState). (view_of s).said u) c.in_ok-store.ensures
    ∙ empty-said 0 1 u in
    let few = c.in_ok-put.ensures.said u in
    omega (arith, none, few)
