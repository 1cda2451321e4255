use Rattle.std.proofs.Common.{◌≡◌, ◌<◌, ◌^◌, length, ap, ◌∙◌, arith}
use Rattle.kin_ids.specs.declared.ops.Piece.{Piece}
use Rattle.kin_graph.specs.State.{PartState, view_of}
use Rattle.kin_graph.proofs.Fitting.{after-said, empty-said}
use Rattle.kin_counts.proofs.tests.delta_of.Goals as goal

pub apply-requires-clause-said : goal.apply-requires-clause-said
apply-requires-clause-said c = λ u.
    let few : length c.args.ops.items < 2 ^ 64 = omega (arith, c.args.ops.ok, c.args.ops.small) in
    let empty : (view_of c.in_ok-graph.graph).said u ≡ 0 = ap (λ (s : PartState). (view_of s).said u) c.in_ok-graph.ensures
    ∙ empty-said 0 1 u in
    let all : length c.of.result ≡ length c.args.ops.items = ap length c.of.ensures in
    let piece : Piece = record {
      stamp = record { ingest = record { 0 = 0 }; inc = record { 0 = 0 }; from = 0; to = 1 };
      base = 0;
      part = record { 0 = 0 };
      ops = c.of.result;
    } in
    omega (arith, after-said 1 piece (view_of c.in_ok-graph.graph) u)
