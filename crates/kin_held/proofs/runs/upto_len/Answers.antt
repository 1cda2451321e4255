use Rattle.std.proofs.Common.{leb, arith, rules}
use Rattle.std.proofs.lemmas.Bool.{leb-true, leb-false}
use Rattle.std.proofs.lemmas.List.Sorted.{IsPartitionPoint-from_clause, IsPartitionedBy-leb}
use Rattle.kin_ids.specs.declared.ops.Piece.{Piece}
use Rattle.kin_held.proofs.Cuts.{IsCut, cut}
use Rattle.kin_held.proofs.runs.upto_len.Goals as goal

-- the search ends at the cut
found : (c : goal.After-partition_point) → IsCut c.args.at c.partition_point.result c.args.pieces.now
found c =
    let ps = c.args.pieces.now in
    let point = IsPartitionPoint-from_clause (λ (p : Piece). leb p.stamp.to c.args.at) ps c.partition_point.result c.partition_point.ensures.partitioned
    (IsPartitionedBy-leb (λ (p : Piece). p.stamp.to) ps c.args.at c.requires) (λ a r f' called. search rules) in
    cut c.args.at c.partition_point.result ps c.partition_point.ensures.bound (λ j d lt. leb-true _ _ (point.0 j d (omega arith) lt)) (λ j d ge lt. leb-false _ _ (point.1 j d ge lt))

pub returns-clause-front : goal.returns-clause-front
returns-clause-front c = (found c).front

pub returns-clause-rest : goal.returns-clause-rest
returns-clause-rest c = (found c).rest
