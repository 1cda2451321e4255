use Rattle.std.proofs.Common.{◌≡◌, ◌<◌, ◌^◌, ℕ, List, refl, sym, ap, ap₂, ◌∙◌, subst}
use Rattle.std.proofs.lemmas.Result.{on_ok_weaker}
use Rattle.kin_ids.specs.declared.ops.Piece.{Piece}
use Rattle.kin_ids.specs.declared.ops.Numbered.{Numbered}
use Rattle.kin_ids.specs.Parts.{PartView, ops_applied}
use Rattle.kin_graph.specs.State.{PartState, after, view_of}
use Rattle.kin_graph.specs.Changes.{kept, done_all}
use Rattle.kin_graph.proofs.Parted.{part_view, part-done_all}
use Rattle.kin_graph.proofs.Taking.{takes-part}
use Rattle.kin_graph.proofs.part_graphs.PartGraph.apply_some.Goals as goal

pub apply_all-requires-clause-said : goal.apply_all-requires-clause-said
apply_all-requires-clause-said c =
    let e = c.args.epoch.0 in
    let i = c.args.piece.now.stamp.ingest.0 in
    let k = kept c.args.self.now in
    let same : after e c.args.piece.now (view_of c.args.self.now) ≡ part_view (done_all e i k c.as_slice.result.now) =
    ap (λ (xs : List Numbered). ops_applied e i (view_of c.args.self.now) xs) (sym c.as_slice.ensures)
    ∙ sym (part-done_all e i k c.as_slice.result.now) in
    λ u. subst (λ (v : PartView). v.said u < 2 ^ 64) same (c.requires.said u)

-- the view after all operations
done-view : (e i : ℕ) (x : Piece) (ops : List Numbered) (s n : PartState) → ops ≡ x.ops → i ≡ x.stamp.ingest.0
    → kept n ≡ done_all e i (kept s) ops → view_of n ≡ after e x (view_of s)
done-view e i x ops s n all node done =
    ap part_view done ∙ (part-done_all e i (kept s) ops ∙ ap₂ (λ (j : ℕ) (xs : List Numbered). ops_applied e j (view_of s) xs) node all)

pub returns-clause-ok : goal.returns-clause-ok
returns-clause-ok c =
    on_ok_weaker c.apply_all.result (done-view c.args.epoch.0 c.args.piece.now.stamp.ingest.0 c.args.piece.now c.as_slice.result.now
    c.args.self.now c.apply_all.new.self c.as_slice.ensures refl) c.apply_all.ensures.ok

pub returns-clause-whole : goal.returns-clause-whole
returns-clause-whole c = on_ok_weaker c.apply_all.result
    (λ (done : kept c.apply_all.new.self ≡ done_all c.args.epoch.0 c.args.piece.now.stamp.ingest.0
    (kept c.args.self.now) c.as_slice.result.now).
    takes-part c.args.epoch.0 c.args.piece.now c.args.self.now c.apply_all.new.self c.requires.part
    (done-view c.args.epoch.0 c.args.piece.now.stamp.ingest.0 c.args.piece.now c.as_slice.result.now c.args.self.now c.apply_all.new.self
    c.as_slice.ensures refl done)) c.apply_all.ensures.ok
