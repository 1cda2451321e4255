use Rattle.std.proofs.Common.{sym, subst, List}
use Rattle.std.specs.List.{All}
use Rattle.std.proofs.lemmas.List.Elements.{All-push}
use Rattle.kin_ids.specs.declared.ops.Piece.{Piece}
use Rattle.kin_bench.specs.Follows.{IsFollows}
use Rattle.kin_bench.proofs.epochs.pieces_of.Goals as goal

pub loop-batch-preserved : goal.loop-batch-preserved
loop-batch-preserved c =
    let P : Piece → Type 0 = IsFollows c.args.parts c.args.p.0 in
    subst (λ (ps : List Piece). All P ps) (sym c.in_ok-push.ensures.items) (All-push P c.loop-batch.pieces.items c.in_ok-piece_of.field-0 c.loop-batch.invariant c.in_ok-piece_of.ensures)
