use Rattle.std.proofs.Common.{◌≡◌, subst, List, ◌∷◌, false}
use Rattle.std.specs.Prelude.{MatchOption, IsPermutation}
use Rattle.std.specs.Map.{values_of}
use Rattle.kin_ids.specs.declared.ops.Piece.{Piece}
use Rattle.kin_held.specs.Early.{begins}
use Rattle.kin_held.proofs.Keyed.{map_removes}
use Rattle.kin_held.proofs.early.EarlyPieces.remove.Goals as goal

pub invariant_of-self : goal.invariant_of-self
invariant_of-self c =
    let after = map_removes c.self.inside.by_from.entries c.self.invariant.0 c.remove.new.self.entries c.remove.ensures.ordered c.args.at c.remove.result c.remove.ensures.value c.remove.ensures.entries in
    (after.kept.keyed, after.kept.ascending)

pub returns-clause-ascending : goal.returns-clause-ascending
returns-clause-ascending c = (invariant_of-self c).1

pub returns-clause-taken : goal.returns-clause-taken
returns-clause-taken c =
    let after = map_removes c.self.inside.by_from.entries c.self.invariant.0 c.remove.new.self.entries c.remove.ensures.ordered c.args.at c.remove.result c.remove.ensures.value c.remove.ensures.entries in
    subst (λ (ps : List Piece). MatchOption c.remove.result ((begins c.args.at ps ≡ false) × (values_of c.remove.new.self.entries ≡ ps))
    (λ (p : Piece). (p.stamp.from ≡ c.args.at) × IsPermutation ps (p ∷ values_of c.remove.new.self.entries))) c.self.view_is after.found
