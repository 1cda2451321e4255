use Rattle.std.proofs.Common.{◌≡◌, ◌<◌, ◌^◌, length, ap, ◌∙◌, arith}
use Rattle.kin_graph.specs.State.{PartState, view_of}
use Rattle.kin_graph.proofs.Fitting.{after-said, empty-said}
use Rattle.kin_blocks.proofs.tests.store_of.Goals as goal

pub apply-requires-clause-said : goal.apply-requires-clause-said
apply-requires-clause-said c = λ u.
    let few : length c.args.ops.items < 2 ^ 64 = omega (arith, c.args.ops.ok, c.args.ops.small) in
    let empty : (view_of c.in_ok-store.store).said u ≡ 0 = ap (λ (s : PartState). (view_of s).said u) c.in_ok-store.ensures
    ∙ empty-said c.args.part.0 2 u in
    let long : length c.piece_of-piece.result.ops ≡ length c.args.ops.items = ap length c.piece_of-piece.ensures.ops in
    omega (arith, after-said 1 c.piece_of-piece.result (view_of c.in_ok-store.store) u)
