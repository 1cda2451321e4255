use Rattle.std.proofs.Common.{◌≡◌, ◌+◌, ◌<◌, ◌^◌, drop, refl, sym, ap, ◌∙◌, subst, arith}
use Rattle.kin_ids.specs.declared.stamps.Place.{Place}
use Rattle.kin_graph.specs.State.{view_of}
use Rattle.kin_graph.specs.Changes.{Kept, kept, done, done_all, Precedes}
use Rattle.kin_store.proofs.Preceding.{precedes-refl, precedes-trans, precedes-done}
use Rattle.kin_graph.proofs.Batches.{done_all-more, done_all-grows}
use Rattle.kin_graph.proofs.Touching.{leaves-nothing, leaves-step}
use Rattle.kin_graph.proofs.part_graphs.PartGraph.apply_all.Goals as goal

pub loop-numbered-init : goal.loop-numbered-init
loop-numbered-init c = record {
  rest = refl;
  part = refl;
  parts = refl;
  stays = precedes-refl (kept c.args.self.now);
  others = leaves-nothing c.args.ops.now (view_of c.args.self.now);
}

pub write-requires-clause-said : goal.write-requires-clause-said
write-requires-clause-said c =
    let e = c.args.epoch.0 in
    let i = c.args.ingest.0 in
    let k = kept c.loop-numbered.self in
    let x = c.numbered-item.result in
    let n = c.loop-numbered.numbered-index in
    let all : done_all e i (kept c.args.self.now) c.args.ops.now ≡ done_all e i
    (done (record { epoch = c.args.epoch; ingest = c.args.ingest; number = x.number }) k x.op) (drop (n + 1) c.args.ops.now) =
    sym c.loop-numbered.invariant.rest ∙ done_all-more e i k c.args.ops.now n x c.loop-numbered-test.true c.numbered-item.is in
    λ u.
    let fits = subst (λ (m : Kept). (m.row u).said < 2 ^ 64) all (c.requires.said u) in
    let grows = done_all-grows e i (done (record { epoch = c.args.epoch; ingest = c.args.ingest; number = x.number }) k x.op)
    (drop (n + 1) c.args.ops.now) u in
    omega (arith, fits, grows)

pub loop-numbered-preserved : goal.loop-numbered-preserved
loop-numbered-preserved c =
    let e = c.args.epoch.0 in
    let i = c.args.ingest.0 in
    let s = c.loop-numbered.self in
    let x = c.numbered-item.result in
    let n = c.loop-numbered.numbered-index in
    let at : Place = record { epoch = c.args.epoch; ingest = c.args.ingest; number = x.number } in
    let inv = c.loop-numbered.invariant in
    let step = c.in_ok-write.ensures in
    record {
      rest = ap (λ (m : Kept). done_all e i m (drop (n + 1) c.args.ops.now)) step.ok
          ∙ (sym (done_all-more e i (kept s) c.args.ops.now n x c.loop-numbered-test.true c.numbered-item.is) ∙ inv.rest);
      part = step.same.0 ∙ inv.part;
      parts = step.same.1 ∙ inv.parts;
      stays = precedes-trans (kept c.args.self.now) (kept s) (kept c.write.new.self) inv.stays
          (subst (λ (m : Kept). Precedes (kept s) m) (sym step.ok) (precedes-done at (kept s) x.op));
      others = leaves-step c.args.ops.now n x c.loop-numbered-test.true c.numbered-item.is c.args.self.now s c.write.new.self at inv.others
          step.ok;
    }
