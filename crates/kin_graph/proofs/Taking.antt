-- A store after a piece is the part of the graph after its transaction.
use Rattle.std.proofs.Common.{◌≡◌, ℕ, List, sym, ap, ◌∙◌, subst}
use Rattle.kin_ids.specs.declared.ops.Piece.{Piece}
use Rattle.kin_ids.specs.declared.ops.Numbered.{Numbered}
use Rattle.kin_ids.specs.Order.{entries, folded}
use Rattle.kin_ids.specs.Operations.{part_ops, stamp_records}
use Rattle.kin_ids.specs.Parts.{PartView, IsPart, ops_applied}
use Rattle.kin_ids.proofs.Shares.{part-law}
use Rattle.kin_graph.specs.State.{PartState, TakesPart, after, view_of}

-- a store after a fitting piece is the part of the graph after the piece's transaction
pub takes-part : (e : ℕ) (x : Piece) (s n : PartState) → x.part.0 ≡ s.part → view_of n ≡ after e x (view_of s) → TakesPart e x s n
takes-part e x s n here new feeds g fits part =
    let ops : x.ops ≡ part_ops s.parts s.part x.stamp.from (stamp_records feeds x.stamp) = fits.exact
    ∙ ap (λ (p : ℕ). part_ops s.parts p x.stamp.from (stamp_records feeds x.stamp)) here in
    let view : view_of n ≡ ops_applied e x.stamp.ingest.0 (view_of s) (part_ops s.parts s.part x.stamp.from (stamp_records feeds x.stamp)) =
    new ∙ ap (λ (xs : List Numbered). ops_applied e x.stamp.ingest.0 (view_of s) xs) ops in
    let P : PartView → Type 0 = λ v. IsPart s.parts s.part
    (folded g (entries e x.stamp.ingest.0 x.stamp.from (stamp_records feeds x.stamp))) v in
    subst P (sym view) (part-law s.parts s.part e x.stamp.ingest.0 x.stamp.from g (view_of s) (stamp_records feeds x.stamp) part)
