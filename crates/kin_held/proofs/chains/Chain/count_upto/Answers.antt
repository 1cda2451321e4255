use Rattle.std.proofs.Common.{sym, subst, List}
use Rattle.std.specs.List.Sorted.{IsNonDecreasingBy}
use Rattle.kin_ids.specs.declared.ops.Piece.{Piece}
use Rattle.kin_held.proofs.Pieces.{ends_grow}
use Rattle.kin_held.proofs.chains.Chain.count_upto.Goals as goal

pub upto_len-requires : goal.upto_len-requires
upto_len-requires c = subst (λ (ps : List Piece). IsNonDecreasingBy (λ (p : Piece). p.stamp.to) ps) (sym c.as_slice.ensures) (ends_grow c.self.inside.floor c.self.inside.held.items c.self.invariant.run.0)
