use Rattle.std.proofs.Common.{◌≡◌, subst, List, ◌∷◌, false, sym}
use Rattle.std.specs.Prelude.{IsPermutation}
use Rattle.std.specs.Map.{values_of}
use Rattle.kin_ids.specs.declared.ops.Piece.{Piece}
use Rattle.kin_held.specs.Early.{begins}
use Rattle.kin_held.proofs.Keyed.{map_inserts}
use Rattle.kin_held.proofs.early.EarlyPieces.add.Goals as goal

pub invariant_of-self-2 : goal.invariant_of-self-2
invariant_of-self-2 c =
    let none = subst (λ (ps : List Piece). begins c.args.piece.stamp.from ps ≡ false) (sym c.self.view_is) c.requires in
    let after = map_inserts c.self.inside.by_from.entries c.self.invariant.0 c.insert.new.self.entries c.insert.ensures.ordered c.args.piece none c.in_ok-insert.ensures.entries in
    (after.0.keyed, after.0.ascending)

pub returns-clause-ascending : goal.returns-clause-ascending
returns-clause-ascending c = (invariant_of-self-2 c).1

pub returns-clause-ok : goal.returns-clause-ok
returns-clause-ok c =
    let none = subst (λ (ps : List Piece). begins c.args.piece.stamp.from ps ≡ false) (sym c.self.view_is) c.requires in
    let after = map_inserts c.self.inside.by_from.entries c.self.invariant.0 c.insert.new.self.entries c.insert.ensures.ordered c.args.piece none c.in_ok-insert.ensures.entries in
    subst (λ (ps : List Piece). IsPermutation (c.args.piece ∷ ps) (values_of c.insert.new.self.entries)) c.self.view_is after.1
