use Rattle.std.proofs.Common.{◌≡◌, length, ap, arith}
use Rattle.std.proofs.lemmas.Result.{on_ok_weaker}
use Rattle.kin_ids.specs.declared.ids.User.{User}
use Rattle.kin_ids.specs.Parts.{PartView}
use Rattle.kin_graph.specs.State.{after, view_of}
use Rattle.kin_graph.proofs.Fitting.{after-said}
use Rattle.kin_graph.proofs.store_tests.put.Goals as goal

pub apply-requires-clause-said : goal.apply-requires-clause-said
apply-requires-clause-said c = λ u.
    let long : length c.piece_of-piece.result.ops ≡ length c.args.ops.items = ap length c.piece_of-piece.ensures.ops in
    let grows = after-said c.args.epoch.0 c.piece_of-piece.result (view_of c.args.store.now) u in
    let before = c.requires.said u in
    omega (arith, long, grows, before, c.len.ensures)

pub returns-clause-said : goal.returns-clause-said
returns-clause-said c = on_ok_weaker c.apply.result
    (λ (e : view_of c.apply.new.self ≡ after c.args.epoch.0 c.piece_of-piece.result (view_of c.args.store.now)) (u : User).
    let long : length c.piece_of-piece.result.ops ≡ length c.args.ops.items = ap length c.piece_of-piece.ensures.ops in
    let grows = after-said c.args.epoch.0 c.piece_of-piece.result (view_of c.args.store.now) u in
    let same = ap (λ (v : PartView). v.said u) e in
    omega (arith, long, grows, same, c.len.ensures))
    c.apply.ensures.ok
